-- Text and reading of held certificates are inverse.
use Rattle.std.proofs.Common.{◌≡◌, ◌-◌, ◌≤◌, ◌+◌, ◌*◌, ◌/◌, ◌%◌, ◌<◌, ℕ, suc, true, ◌&&◌, List, [], ◌∷◌, ◌++◌, length, get_or, Option, Some, None, Result, Ok, Err, refl, sym, ap, subst, ◌∙◌, append_assoc, arith}
use Rattle.std.specs.List.{concat}
use Rattle.std.proofs.lemmas.Bool.{and_parts, and_from, eq-eqb, le-leb}
use Rattle.std.proofs.Math.Nat.{mul-mod_left}
use Rattle.std.specs.Prelude.{◌==◌}
use Rattle.case_lines.proofs.Public.{few_pairs, case_fits}
use Rattle.line_text.proofs.Public.{both_are_exact, a_field, word_line_is_exact, lines_again, answer_again, answer_takes, answer_refuses}
use Rattle.std.proofs.lemmas.Nat.{div-add-mod', div_below, mod_below}
use Rattle.line_text.specs.Formats.{Token, fits_after}
use Rattle.line_text.specs.Files.{lines_of, file_text, file_answer, IsFirstBad}
use Rattle.line_text.specs.Texts.{word_line, count_line, numbers_from}
use Rattle.line_text.specs.Exact.{IsLine}
use Rattle.answers.specs.Answers.{Gives}
use Rattle.answers.specs.declared.stop.Stop.{Stop}
use Rattle.answers.specs.declared.stop.Stop.TheVariants as stop
use Rattle.spares_input.specs.Frames.{FrameRows, frame_of}
use Rattle.spares_input.specs.Cases.{CaseRows, frame_rows, pair_count, IsCase}
use Rattle.spares_input.specs.Stocks.{AreStocksOf, StockList, limit_at}
use Rattle.spares_input.specs.declared.fault.CaseFault.{CaseFault}
use Rattle.spares_input.proofs.Public.{own_frame}
use Rattle.price_certificate.specs.declared.certificate.Certificate.{Certificate}
use Rattle.price_certificate.specs.declared.fault.CertFault.{CertFault}
use Rattle.price_certificate.specs.declared.fault.CertFault.TheVariants as fault
use Rattle.price_certificate.specs.Grammar.{certificate_format}
use Rattle.line_text.specs.Texts.{number_line}
use Rattle.price_certificate.specs.Certificates.{cert_text}
use Rattle.price_certificate.specs.Certificates as certified
use Rattle.price_certificate.proofs.Public.{well_formed_fits, format_fits, count_within, joined}
use Rattle.held_certificate.specs.declared.held.HeldCertificate.{HeldCertificate}
use Rattle.held_certificate.specs.Held.{rest, held_line, held_lines, held, front, held_format, IsWellHeld, held_text, refusal, case_fault, held_judged, held_of}
use Rattle.held_certificate.proofs.Exact.{front_is_exact, held_format_is_exact, held_is_exact, small_at, each_fits}
use lib.Chars.{codes}

judged_ok : (o : Option CaseFault) (r : Result HeldCertificate ℕ) (h : HeldCertificate) → held_judged o r ≡ Ok h → (o ≡ None) × (r ≡ Ok h)
judged_ok None (Ok x) h e = (refl, let s : x ≡ h = cc in ap (λ (y : HeldCertificate). Ok y) s)
judged_ok None (Err n) h e = absurd cc
judged_ok (Some f) r h e = absurd cc

judged_line : (o : Option CaseFault) (r : Result HeldCertificate ℕ) (n : ℕ) → held_judged o r ≡ Err (fault.BadLine n) → r ≡ Err n
judged_line None (Ok x) n e = absurd cc
judged_line None (Err m) n e = let s : m ≡ n = cc in ap (λ (k : ℕ). Err k) s
judged_line (Some f) r n e = absurd cc

-- bytes that are read as a held certificate are the text of it, and it fits the format
pub its_text : (bytes : List ℕ) (h : HeldCertificate) → held_of bytes ≡ Ok h → (held_format.fits h ≡ true) × (bytes ≡ held_text h)
its_text bytes h e = answer_takes held_format held_format_is_exact bytes h (judged_ok (case_fault (front.read (lines_of bytes))) (file_answer held_format bytes) h e).1

-- a bad line that is answered is the first one of the bytes that isn't in the grammar
pub bad_line : (bytes : List ℕ) (n : ℕ) → held_of bytes ≡ Err (fault.BadLine n) → (before : ℕ) × (n ≡ suc before) × IsFirstBad held_format bytes before
bad_line bytes n e = answer_refuses held_format held_format_is_exact bytes n (judged_line (case_fault (front.read (lines_of bytes))) (file_answer held_format bytes) n e)

-- ---- a well formed one has lines and no fault

range : (most n : ℕ) → n ≤ most → (number_line most).fits n ≡ true
range most n h = and_from _ _ (le-leb 0 n (omega arith)) (le-leb n most h)

-- stocks of a case fit the lines of what is held
pub held_fits : (c : CaseRows) (s : StockList) → 2 ≤ length c.sites → AreStocksOf c s → (held c).fits s ≡ true
held_fits c s two h =
    let is = h.is_for in
    let n = length c.sites in
    let pairs = pair_count (frame_rows c) in
    let some : 0 < n = omega (arith, two) in
    and_from _ _ (eq-eqb s.sites n is.sites)
    (and_from _ _ refl
    (and_from _ _ (and_from _ _ refl (and_from _ _ refl (and_from _ _ (le-leb pairs (length s.list) (omega (arith, is.pairs))) (le-leb (length s.list) pairs (omega (arith, is.pairs))))))
    (each_fits (held_line c) s.list [] 0 (λ j lt.
    let z : j ≡ 0 + j = omega arith in
    let below : j < length c.parts * n = omega (arith, lt, is.pairs) in
    let p = div_below j n (length c.parts) some below in
    let k = mod_below j n some in
    let place : (j / n) * s.sites + j % n ≡ j = ap (λ (m : ℕ). (j / n) * m + j % n) is.sites ∙ div-add-mod' j n in
    let le : get_or s.list j 0 ≤ limit_at c.parts (j / n) (j % n) = subst (λ (i : ℕ). get_or s.list i 0 ≤ limit_at c.parts (j / n) (j % n)) place (h.limits (j / n) (j % n) p k) in
    subst (λ (i : ℕ). (held_line c i).fits (get_or s.list j 0) ≡ true) z (range (limit_at c.parts (j / n) (j % n)) (get_or s.list j 0) le)))))

pub fits : (h : HeldCertificate) → IsWellHeld h → held_format.fits h ≡ true
fits h w =
    let c = h.certificate in
    and_from _ _ refl
    (and_from _ _ (and_from _ _ refl (and_from _ _ refl (format_fits c w.format (well_formed_fits c w.certificate))))
    (and_from _ _ (held_fits c.case h.held w.certificate.case.frame.fewest_sites w.held) refl))

no_refusal : (c : Certificate) (ts rest : List Token) → front.read ts ≡ Ok (c, rest) → frame_of c.case.sites c.case.parts ≡ Ok (frame_rows c.case) → case_fault (front.read ts) ≡ None
no_refusal c ts rest h e = ap case_fault h ∙ ap refusal e

-- the text of a well formed held certificate is read as that certificate
pub again : (h : HeldCertificate) → IsWellHeld h → held_of (held_text h) ≡ Ok h
again h w =
    let c = h.certificate in
    let f = fits h w in
    let lines = lines_again (held_format.print h) (held_format_is_exact.plain h f) in
    let whole = (and_from _ _ refl (format_fits c w.format (well_formed_fits c w.certificate))) in
    let first = front_is_exact.again c (and_from _ _ refl whole) ((held c.case).print h.held ++ (codes "end\n" ∷ [])) in
    let free : case_fault (front.read (lines_of (held_text h))) ≡ None = no_refusal c (lines_of (held_text h)) ((held c.case).print h.held ++ (codes "end\n" ∷ [])) (ap front.read lines ∙ first) (own_frame (frame_rows c.case) w.certificate.case.frame) in
    ap (λ (o : Option CaseFault). held_judged o (file_answer held_format (held_text h))) free
    ∙ ap (held_judged None) (answer_again held_format held_format_is_exact h f)

-- the parts of a held certificate's text
pub parts_of_text : (h : HeldCertificate) → held_text h ≡ file_text (count_line (codes "spares-held") 1 1) 1 ++ (cert_text h.certificate ++ (concat ((held h.certificate.case).print h.held) ++ codes "end\n"))
parts_of_text h =
    let head = (count_line (codes "spares-held") 1 1).print 1 in
    let inner = (certificate_format 2).print h.certificate in
    let list = (held h.certificate.case).print h.held in
    let end = codes "end\n" ∷ [] in
    ap concat (append_assoc head inner (list ++ end))
    ∙ joined head (inner ++ (list ++ end)) _ (joined inner (list ++ end) _ (joined list end (codes "end\n") refl))

-- ---- what reading finds

module _ (bytes : List ℕ) (c : Certificate) (middle : List Token) (first : front.read (lines_of bytes) ≡ Ok (c, middle)) where
  -- a rule that the sites and parts in front break is the answer
  pub fault_at : (x : CaseFault) → frame_of c.case.sites c.case.parts ≡ Err x → held_of bytes ≡ Err (fault.BadCase x)
  fault_at x e = ap (λ (o : Option CaseFault). held_judged o (file_answer held_format bytes)) (ap case_fault first ∙ ap refusal e)

  case_at : (d : CertFault) → certified.judged (Ok c) ≡ Err d → held_of bytes ≡ Err d
  case_at d h = by_frame (frame_of c.case.sites c.case.parts) refl h
    where
      by_frame : (o : Result FrameRows CaseFault) → frame_of c.case.sites c.case.parts ≡ o → certified.with_frame c o ≡ Err d → held_of bytes ≡ Err d
      by_frame (Ok f) g k = absurd cc
      by_frame (Err x) g k = let same : fault.BadCase x ≡ d = cc in fault_at x g ∙ ap (λ (z : CertFault). Err z) same

  -- what refuses the certificate in front refuses the whole alike
  pub stops_at : (s : Stop CertFault) → Gives {T = Certificate} (certified.judged (Ok c)) (Err s) → Gives {T = HeldCertificate} (held_of bytes) (Err s)
  stops_at stop.NoMemory h = tt
  stops_at (stop.Fault d) h = case_at d h

  -- where the certificate in front is answered, it is the one that was read, and its case has no fault
  pub free : (d : Certificate) → certified.judged (Ok c) ≡ Ok d → (c ≡ d) × (case_fault (front.read (lines_of bytes)) ≡ None)
  free d h = by_frame (frame_of c.case.sites c.case.parts) refl h
    where
      by_frame : (o : Result FrameRows CaseFault) → frame_of c.case.sites c.case.parts ≡ o → certified.with_frame c o ≡ Ok d → (c ≡ d) × (case_fault (front.read (lines_of bytes)) ≡ None)
      by_frame (Ok f) g k = (cc, ap case_fault first ∙ ap refusal g)
      by_frame (Err x) g k = absurd cc

  -- where the case has no fault, the first bad line behind the certificate is the answer
  pub bad_rest : (left : List Token) → case_fault (front.read (lines_of bytes)) ≡ None → (rest c.case).read middle ≡ Err left → held_of bytes ≡ Err (fault.BadLine (suc (length (lines_of bytes) - length left)))
  bad_rest left none h = rw none (rw (first, h) refl)

  pub more_rest : (s : StockList × Unit {0}) (t : Token) (ts : List Token) → case_fault (front.read (lines_of bytes)) ≡ None → (rest c.case).read middle ≡ Ok (s, t ∷ ts) → held_of bytes ≡ Err (fault.BadLine (suc (length (lines_of bytes) - length (t ∷ ts))))
  more_rest s t ts none h = rw none (rw (first, h) refl)

  -- where lines are left behind the second end, the first of these is the answer
  pub some_rest : (s : StockList × Unit {0}) (left : List Token) → (left ≡ [] → ⊥) → case_fault (front.read (lines_of bytes)) ≡ None → (rest c.case).read middle ≡ Ok (s, left) → held_of bytes ≡ Err (fault.BadLine (suc (length (lines_of bytes) - length left)))
  some_rest s [] some none h = absurd (some refl)
  some_rest s (t ∷ ts) some none h = more_rest s t ts none h

  -- where nothing is left behind the second end, certificate and held stocks are the answer
  pub whole_rest : (s : StockList) → case_fault (front.read (lines_of bytes)) ≡ None → (rest c.case).read middle ≡ Ok ((s, tt), []) → held_of bytes ≡ Ok (record { certificate = c; held = s })
  whole_rest s none h = rw none (rw (first, h) refl)

  -- the same certificate, as it was made
  pub made_first : (d : Certificate) → c ≡ d → front.read (lines_of bytes) ≡ Ok (d, middle)
  made_first d e = first ∙ ap (λ (x : Certificate). Ok (x, middle)) e

-- as many are held as there are pairs
pub pairs_read : (c : CaseRows) → IsCase c → (ts left : List Token) (list : List ℕ) (n : ℕ) → (rest c).read ts ≡ Ok ((record { sites = n; list = list }, tt), left) → length list ≡ pair_count (frame_rows c)
pairs_read c v ts left list n h =
    let f = case_fits c v in
    let exact = both_are_exact IsLine (held c) (λ _. word_line (codes "end")) (held_is_exact c (few_pairs c f) (small_at c.parts v.frame.part_rows)) (λ _ _. word_line_is_exact (codes "end") (a_field (codes "end") refl)) in
    let s : StockList = record { sites = n; list = list } in
    let p = and_parts ((held c).fits s) true (exact.takes ts (s, tt) left h).0 in
    let lines = (held_lines c).fits list in
    let q = and_parts (n == length c.sites) lines p.0 in
    let pairs = pair_count (frame_rows c) in
    let count = (count_line (codes "held") pairs pairs).fits (length list) in
    let rows = fits_after (λ _ i. held_line c i) [] (numbers_from 0 (length list)) list in
    let w = count_within (codes "held") pairs pairs (length list) (and_parts count rows (and_parts true (count && rows) q.1).1).0 in
    omega (arith, w.0, w.1)

-- a number for each pair makes whole rows of sites
pub whole_pairs : (c : CaseRows) (n : ℕ) (list : List ℕ) → length list ≡ pair_count (frame_rows c) → n ≡ length c.sites → length list % n ≡ 0
whole_pairs c n list e h = ap (λ (k : ℕ). k % n) (e ∙ ap (λ (m : ℕ). length c.parts * m) (sym h)) ∙ mul-mod_left (length c.parts) n
