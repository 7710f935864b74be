-- Text and reading are inverse.
use Rattle.std.proofs.Common.{◌≡◌, ◌≤◌, ℕ, suc, List, true, Result, Ok, Err, refl, ap, ◌∙◌, arith}
use Rattle.line_text.specs.Files.{file_answer, IsFirstBad}
use Rattle.line_text.proofs.Public.{answer_again, answer_takes, answer_refuses}
use Rattle.spares_input.specs.Frames.{FrameRows, frame_of}
use Rattle.spares_input.specs.Cases.{frame_rows}
use Rattle.spares_input.specs.declared.fault.CaseFault.{CaseFault}
use Rattle.spares_input.proofs.Public.{own_frame}
use Rattle.price_certificate.specs.declared.certificate.Certificate.{Certificate}
use Rattle.price_certificate.specs.declared.fault.CertFault.TheVariants as fault
use Rattle.price_certificate.specs.Grammar.{certificate_format}
use Rattle.price_certificate.specs.Certificates.{IsWellFormed, cert_text, cert_of, with_frame, judged}
use Rattle.price_certificate.proofs.Exact.{certificate_is_exact}
use Rattle.price_certificate.proofs.Fits.{well_formed_fits}

one_or_two : 1 ≤ 2
one_or_two = omega arith

frame_ok : (c d : Certificate) (r : Result FrameRows CaseFault) → with_frame c r ≡ Ok d → c ≡ d
frame_ok c d (Ok f) h = cc
frame_ok c d (Err x) h = absurd cc

frame_line : (c : Certificate) (r : Result FrameRows CaseFault) (n : ℕ) → with_frame c r ≡ Err (fault.BadLine n) → ⊥
frame_line c (Ok f) n h = absurd cc
frame_line c (Err x) n h = absurd cc

frame_case : (c : Certificate) (r : Result FrameRows CaseFault) (x : CaseFault) → with_frame c r ≡ Err (fault.BadCase x) → r ≡ Err x
frame_case c (Ok f) x h = absurd cc
frame_case c (Err y) x h = let e : y ≡ x = cc in ap (λ (z : CaseFault). Err z) e

judged_ok : (r : Result Certificate ℕ) (d : Certificate) → judged r ≡ Ok d → r ≡ Ok d
judged_ok (Ok c) d h = ap (λ (x : Certificate). Ok x) (frame_ok c d (frame_of c.case.sites c.case.parts) h)
judged_ok (Err n) d h = absurd cc

judged_line : (r : Result Certificate ℕ) (n : ℕ) → judged r ≡ Err (fault.BadLine n) → r ≡ Err n
judged_line (Ok c) n h = absurd (frame_line c (frame_of c.case.sites c.case.parts) n h)
judged_line (Err m) n h = let e : m ≡ n = cc in ap (λ (k : ℕ). Err k) e

judged_case : (r : Result Certificate ℕ) (x : CaseFault) → judged r ≡ Err (fault.BadCase x) → (c : Certificate) × ((r ≡ Ok c) × (frame_of c.case.sites c.case.parts ≡ Err x))
judged_case (Ok c) x h = (c, (refl, frame_case c (frame_of c.case.sites c.case.parts) x h))
judged_case (Err m) x h = absurd cc

-- a well formed certificate is read back from its text
pub again : (c : Certificate) → IsWellFormed c → cert_of (cert_text c) ≡ Ok c
again c w =
    ap judged (answer_again (certificate_format 1) (certificate_is_exact 1 one_or_two) c (well_formed_fits c w))
    ∙ ap (with_frame c) (own_frame (frame_rows c.case) w.case.frame)

-- bytes that are read as a certificate are its text
pub its_text : (bytes : List ℕ) (c : Certificate) → cert_of bytes ≡ Ok c → ((certificate_format 1).fits c ≡ true) × (bytes ≡ cert_text c)
its_text bytes c h = answer_takes (certificate_format 1) (certificate_is_exact 1 one_or_two) bytes c (judged_ok (file_answer (certificate_format 1) bytes) c h)

-- a bad line is the first one: others may begin with the lines before it, none has it as well
pub bad_line : (bytes : List ℕ) (n : ℕ) → cert_of bytes ≡ Err (fault.BadLine n) → (before : ℕ) × (n ≡ suc before) × IsFirstBad (certificate_format 1) bytes before
bad_line bytes n h = answer_refuses (certificate_format 1) (certificate_is_exact 1 one_or_two) bytes n (judged_line (file_answer (certificate_format 1) bytes) n h)

-- a case that breaks a rule stands in lines that are all in the grammar
pub bad_case : (bytes : List ℕ) (x : CaseFault) → cert_of bytes ≡ Err (fault.BadCase x) → (c : Certificate) × ((certificate_format 1).fits c ≡ true) × (bytes ≡ cert_text c) × (frame_of c.case.sites c.case.parts ≡ Err x)
bad_case bytes x h =
    let p = judged_case (file_answer (certificate_format 1) bytes) x h in
    let t = answer_takes (certificate_format 1) (certificate_is_exact 1 one_or_two) bytes p.0 p.1.0 in
    (p.0, t.0, t.1, p.1.1)
