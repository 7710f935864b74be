-- The certificate that is made of lines.
use Rattle.std.proofs.Common.{◌≡◌, ◌≢◌, ◌*◌, ◌%◌, ◌-◌, ℕ, suc, List, [], ◌∷◌, length, true, Result, Ok, Err, refl, sym, ap, subst, ◌∙◌}
use Rattle.std.specs.Prelude.{IfOk}
use Rattle.std.proofs.Math.Nat.{mul-mod_left}
use Rattle.answers.specs.Steps.{◌>>=◌}
use Rattle.line_text.specs.Formats.{Token, Format, all_read}
use Rattle.line_text.specs.Files.{lines_of, file_answer, numbered}
use Rattle.answers.specs.Answers.{Gives}
use Rattle.answers.specs.declared.stop.Stop.{Stop}
use Rattle.spares_input.specs.Frames.{FrameRows, frame_of}
use Rattle.spares_input.specs.Cases.{CaseRows, IsCase}
use Rattle.spares_input.specs.Stocks.{StockList}
use Rattle.spares_input.specs.declared.fault.CaseFault.{CaseFault}
use Rattle.case_lines.specs.Grammar.{case_format}
use Rattle.case_lines.specs.Framed.{rows_of, framed}
use Rattle.case_lines.specs.Framed as framing
use Rattle.price_certificate.specs.declared.certificate.Certificate.{Certificate}
use Rattle.price_certificate.specs.declared.reading.CertificateLines.{CertificateLines}
use Rattle.price_certificate.specs.declared.fault.CertFault.{CertFault}
use Rattle.price_certificate.specs.declared.fault.CertFault.TheVariants as fault
use Rattle.price_certificate.specs.Grammar.{certificate_format}
use Rattle.price_certificate.specs.Certificates.{IsWellFormed, cert_text, cert_of, with_frame, judged}
use Rattle.price_certificate.specs.Reading.{draft_of}
use Rattle.price_certificate.proofs.Fits.{fits_case, fits_stocks, fits_well_formed}
use Rattle.price_certificate.proofs.Inverse.{again, its_text}
use Rattle.price_certificate.proofs.Sequences.{with_sites}

framed_at : (r d : CaseRows) (f : Result FrameRows CaseFault) → framing.with_frame r f ≡ Ok d → r ≡ d
framed_at r d (Ok f) h = cc
framed_at r d (Err x) h = absurd cc

pub framed_is : (r d : CaseRows) → framed r ≡ Ok d → r ≡ d
framed_is r d h = framed_at r d (frame_of r.sites r.parts) h

-- as many stocks as there are pairs
pub whole : (read : CertificateLines) (k : CaseRows) (n : ℕ) (list : List ℕ) → (certificate_format 1).fits (draft_of read) ≡ true → framed (rows_of read.case) ≡ Ok k → n ≡ length k.sites → list ≡ read.lists.stocks → length list % n ≡ 0
whole read k n list h same count e =
    let rows = rows_of read.case in
    let sites : length rows.sites ≡ n = ap (λ (c : CaseRows). length c.sites) (framed_is rows k same) ∙ sym count in
    let pairs : length list ≡ length rows.parts * n = ap (λ (xs : List ℕ). length xs) e ∙ (fits_stocks (draft_of read) h).0.pairs ∙ ap (λ (m : ℕ). length rows.parts * m) sites in
    ap (λ (x : ℕ). x % n) pairs ∙ mul-mod_left (length rows.parts) n

abbrev made : CertificateLines → CaseRows → StockList → Certificate
made d k s = record { format = d.format; objective = d.objective; case = k; budget = d.budget; price = d.price; floors = d.lists.floors; covers = d.lists.covers; stocks = s; upper = d.lists.ending.upper; bound = d.lists.ending.bound }

-- lines that fit and whose sites and parts make a valid case make a well formed certificate
pub made_well : (read : CertificateLines) (k : CaseRows) (n : ℕ) (list : List ℕ) (s : StockList) → (certificate_format 1).fits (draft_of read) ≡ true → framed (rows_of read.case) ≡ Ok k → n ≡ length k.sites → list ≡ read.lists.stocks → IsCase k → s ≡ with_sites n list → IsWellFormed (made read k s)
made_well read k n list s h same count e valid t =
    let rows = rows_of read.case in
    let is : rows ≡ k = framed_is rows k same in
    let w = fits_well_formed (draft_of read) h (subst (λ (c : CaseRows). IsCase c) (sym is) valid) in
    let sites : length rows.sites ≡ n = ap (λ (c : CaseRows). length c.sites) is ∙ sym count in
    let stocks : with_sites (length rows.sites) read.lists.stocks ≡ s = ap (λ (m : ℕ). with_sites m read.lists.stocks) sites ∙ ap (with_sites n) (sym e) ∙ sym t in
    subst (λ (c : CaseRows). IsWellFormed (made read c s)) is (subst (λ (x : StockList). IsWellFormed (made read rows x)) stocks w)

-- lines that fit have the lines of a case among them
pub case_fits : (read : CertificateLines) → (certificate_format 1).fits (draft_of read) ≡ true → case_format.fits (rows_of read.case) ≡ true
case_fits read h = fits_case (draft_of read) h

kept_at : (c : Certificate) (r d : CaseRows) (f : Result FrameRows CaseFault) → framing.with_frame r f ≡ Ok d → with_frame c f ≡ Ok c
kept_at c r d (Ok f) h = refl
kept_at c r d (Err x) h = absurd cc

refused_at : (c : Certificate) (r : CaseRows) (x : CaseFault) (f : Result FrameRows CaseFault) → framing.with_frame r f ≡ Err x → with_frame c f ≡ Err (fault.BadCase x)
refused_at c r x (Ok f) h = absurd cc
refused_at c r x (Err y) h = cc

-- lines whose sites and parts make a case are judged to be the certificate of that case
pub made_answer : (read : CertificateLines) (k : CaseRows) (n : ℕ) (list : List ℕ) (s : StockList) → framed (rows_of read.case) ≡ Ok k → n ≡ length k.sites → list ≡ read.lists.stocks → s ≡ with_sites n list → judged (Ok (draft_of read)) ≡ Ok (made read k s)
made_answer read k n list s same count e t =
    let rows = rows_of read.case in
    let is : rows ≡ k = framed_is rows k same in
    let sites : length rows.sites ≡ n = ap (λ (c : CaseRows). length c.sites) is ∙ sym count in
    let stocks : with_sites (length rows.sites) read.lists.stocks ≡ s = ap (λ (m : ℕ). with_sites m read.lists.stocks) sites ∙ ap (with_sites n) (sym e) ∙ sym t in
    let ok : Certificate → Result Certificate CertFault = λ c. Ok c in
    kept_at (draft_of read) rows k (frame_of rows.sites rows.parts) same
    ∙ ap (λ (x : StockList). ok (made read rows x)) stocks ∙ ap (λ (c : CaseRows). ok (made read c s)) is

-- lines whose sites and parts make no case are judged by the rule that these break
pub made_fault : (read : CertificateLines) (x : CaseFault) → framed (rows_of read.case) ≡ Err x → judged (Ok (draft_of read)) ≡ Err (fault.BadCase x)
made_fault read x h = refused_at (draft_of read) (rows_of read.case) x (frame_of read.case.sites read.case.parts) h

-- ---- what reading answers

at_end : {A : Type 0} (k : ℕ) (r : Result (A × List Token) (List Token)) (a : A) (rest : List Token) → r ≡ Ok (a, rest) → rest ≡ [] → numbered k (r >>= all_read) ≡ Ok a
at_end k r a rest h e = rw (h, e) refl

past_end : {A : Type 0} (k : ℕ) (r : Result (A × List Token) (List Token)) (a : A) (rest : List Token) → r ≡ Ok (a, rest) → rest ≢ [] → numbered k (r >>= all_read) ≡ Err (suc (k - length rest))
past_end k r a [] h e = absurd (e refl)
past_end k r a (t ∷ ts) h e = rw h refl

before_end : {A : Type 0} (k : ℕ) (r : Result (A × List Token) (List Token)) (left : List Token) → r ≡ Err left → numbered k (r >>= all_read) ≡ Err (suc (k - length left))
before_end k r left h = rw h refl

judged_lines : {A : Type 0} (format : Format A) (bytes : List ℕ) (ts : List Token) (r : Result A ℕ) → ts ≡ lines_of bytes → numbered (length (lines_of bytes)) (format.read ts >>= all_read) ≡ r → file_answer format bytes ≡ r
judged_lines format bytes ts r e h = ap (λ (xs : List Token). numbered (length (lines_of bytes)) (format.read xs >>= all_read)) (sym e) ∙ h

-- where nothing is left after the lines, the answer is what these are judged to be
pub read_whole : (bytes : List ℕ) (ts rest : List Token) (d : Certificate) (r : Result Certificate (Stop CertFault)) → ts ≡ lines_of bytes → (certificate_format 1).read ts ≡ Ok (d, rest) → rest ≡ [] → Gives (judged (Ok d)) r → Gives (cert_of bytes) r
read_whole bytes ts rest d r e h n g =
    subst (λ (a : Result Certificate ℕ). Gives (judged a) r)
    (sym (judged_lines (certificate_format 1) bytes ts (Ok d) e (at_end (length (lines_of bytes)) ((certificate_format 1).read ts) d rest h n))) g

-- where something is left, it begins with the bad line
pub read_more : (bytes : List ℕ) (ts rest : List Token) (d : Certificate) (n : ℕ) → ts ≡ lines_of bytes → (certificate_format 1).read ts ≡ Ok (d, rest) → rest ≢ [] → n ≡ suc (length (lines_of bytes) - length rest) → cert_of bytes ≡ Err (fault.BadLine n)
read_more bytes ts rest d n e h some k =
    ap judged (judged_lines (certificate_format 1) bytes ts _ e (past_end (length (lines_of bytes)) ((certificate_format 1).read ts) d rest h some)) ∙ ap (λ (m : ℕ). judged (Err m)) (sym k)

-- where the lines are refused, the answer is the first that is none of them
pub read_bad : (bytes : List ℕ) (ts left : List Token) (n : ℕ) → ts ≡ lines_of bytes → (certificate_format 1).read ts ≡ Err left → n ≡ suc (length (lines_of bytes) - length left) → cert_of bytes ≡ Err (fault.BadLine n)
read_bad bytes ts left n e h k =
    ap judged (judged_lines (certificate_format 1) bytes ts _ e (before_end (length (lines_of bytes)) ((certificate_format 1).read ts) left h)) ∙ ap (λ (m : ℕ). judged (Err m)) (sym k)

-- a certificate that was read of some bytes has these bytes as its text
pub found : (bytes : List ℕ) (r : Result Certificate (Stop CertFault)) → Gives (cert_of bytes) r → IfOk r IsWellFormed → IfOk r (λ c. IsWellFormed c × (bytes ≡ cert_text c))
found bytes (Ok c) h w = (w, (its_text bytes c h).1)
found bytes (Err e) h w = tt

-- bytes that are a well formed certificate's text are read as that certificate, want of memory free
pub only : (bytes : List ℕ) (r : Result Certificate (Stop CertFault)) → Gives (cert_of bytes) r → (c : Certificate) → IsWellFormed c → bytes ≡ cert_text c → Gives (Ok c) r
only bytes r h c w e = subst (λ (a : Result Certificate CertFault). Gives a r) (ap cert_of e ∙ again c w) h
