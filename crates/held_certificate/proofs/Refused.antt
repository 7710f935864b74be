-- The fault of a case, and which form bytes have.
use Rattle.std.proofs.Common.{◌≡◌, ℕ, ◌+◌, ◌<◌, true, false, ◌&&◌, List, [], ◌∷◌, ◌++◌, Option, Some, None, Result, Ok, Err, refl, sym, ap, ◌∙◌, append_assoc, arith}
use Rattle.std.specs.Fmt.{decimal}
use Rattle.std.specs.List.{concat, join_with_byte, AllByRecursion}
use Rattle.std.proofs.lemmas.Fmt.{decimal_by_steps}
use Rattle.std.proofs.lemmas.Bool.{and_parts, and_from}
use Rattle.std.proofs.lemmas.List.Folds.{concat-append}
use Rattle.line_text.specs.Formats.{Token}
use Rattle.line_text.specs.Files.{lines_of, file_text, file_answer}
use Rattle.line_text.specs.Texts.{count_line}
use Rattle.line_text.specs.Exact.{IsLine}
use Rattle.line_text.proofs.Public.{concat_lines, lines_at}
use Rattle.spares_input.specs.Frames.{FrameRows, frame_of}
use Rattle.spares_input.specs.declared.fault.CaseFault.{CaseFault}
use Rattle.price_certificate.specs.declared.certificate.Certificate.{Certificate}
use Rattle.price_certificate.specs.declared.fault.CertFault.TheVariants as fault
use Rattle.price_certificate.specs.Grammar.{certificate_format}
use Rattle.price_certificate.specs.Certificates.{cert_text}
use Rattle.held_certificate.specs.declared.held.HeldCertificate.{HeldCertificate}
use Rattle.held_certificate.specs.Held.{first_line, front, held, held_format, held_of, held_text, is_held_form, HasCaseFault, case_fault, held_judged, refusal}
use Rattle.held_certificate.proofs.Exact.{front_is_exact}
use Rattle.held_certificate.proofs.Inverse.{fault_at, parts_of_text}
use lib.Chars.{codes}

-- ---- the front of a file

one_digit : (n : ℕ) → n < 10 → decimal n ≡ (48 + n) ∷ []
one_digit n h =
    decimal_by_steps (λ m ds. m < 10 → ds ≡ (48 + m) ∷ []) (λ m s b. refl) (λ m ds t i b. absurd (omega (arith, t, b))) n (omega (arith, h)) h

first_is : file_text (count_line (codes "spares-held") 1 1) 1 ≡ first_line
first_is = ap (λ (ds : List ℕ). concat ((join_with_byte 44 (codes "spares-held" ∷ ds ∷ []) ++ 10 ∷ []) ∷ [])) (one_digit 1 (omega arith))

front_text : (c : Certificate) → file_text front c ≡ first_line ++ cert_text c
front_text c =
    concat-append ((count_line (codes "spares-held") 1 1).print 1) ((certificate_format 2).print c) ∙ ap (λ (x : List ℕ). x ++ cert_text c) first_is

front_inside : (c : Certificate) → front.fits c ≡ true → (certificate_format 2).fits c ≡ true
front_inside c h =
    let head = (count_line (codes "spares-held") 1 1).fits 1 in
    let inner = (certificate_format 2).fits c in
    (and_parts head inner (and_parts true (head && inner) h).1).1

-- lines, and then other bytes
lines_then : (ls : List Token) (rest : List ℕ) → AllByRecursion IsLine ls → lines_of (concat ls ++ rest) ≡ ls ++ lines_of rest
lines_then [] rest h = refl
lines_then (l ∷ ls) rest h =
    let body = h.0.body in
    let whole : (l ++ concat ls) ++ rest ≡ body ++ 10 ∷ (concat ls ++ rest) =
    append_assoc l (concat ls) rest ∙ ap (λ (x : Token). x ++ (concat ls ++ rest)) h.0.parts ∙ append_assoc body (10 ∷ []) (concat ls ++ rest) in
    ap lines_of whole ∙ lines_at body (concat ls ++ rest) h.0.inside
    ∙ ap (λ (x : Token). x ∷ lines_of (concat ls ++ rest)) (sym h.0.parts)
    ∙ ap (λ (x : List Token). l ∷ x) (lines_then ls rest h.1)

-- ---- the fault of a case

judged_case : (o : Option CaseFault) (r : Result HeldCertificate ℕ) (f : CaseFault) → held_judged o r ≡ Err (fault.BadCase f) → o ≡ Some f
judged_case None (Ok h) f e = absurd cc
judged_case None (Err n) f e = absurd cc
judged_case (Some g) r f e = let s : g ≡ f = cc in ap (λ (x : CaseFault). Some x) s

module _ (bytes : List ℕ) (f : CaseFault) where
  found_fault : (c : Certificate) (left : List Token) → front.read (lines_of bytes) ≡ Ok (c, left) → frame_of c.case.sites c.case.parts ≡ Err f → HasCaseFault bytes f
  found_fault c left e g =
      let t = front_is_exact.takes (lines_of bytes) c left e in
      record {
        certificate = c;
        fits = front_inside c t.0;
        rest = concat left;
        begins = sym (concat_lines bytes) ∙ ap concat t.1 ∙ concat-append (front.print c) left ∙ ap (λ (x : List ℕ). x ++ concat left) (front_text c)
            ∙ append_assoc first_line (cert_text c) (concat left);
        refused = g;
      }

  by_frame : (c : Certificate) (left : List Token) (o : Result FrameRows CaseFault) → front.read (lines_of bytes) ≡ Ok (c, left) → frame_of c.case.sites c.case.parts ≡ o
      → refusal o ≡ Some f → HasCaseFault bytes f
  by_frame c left (Ok frame) e g k = absurd cc
  by_frame c left (Err x) e g k = (let s : x ≡ f = cc in found_fault c left e (g ∙ ap (λ (y : CaseFault). Err y) s))

  by_read : (r : Result (Certificate × List Token) (List Token)) → front.read (lines_of bytes) ≡ r → case_fault r ≡ Some f → HasCaseFault bytes f
  by_read (Ok (c, left)) e k = by_frame c left (frame_of c.case.sites c.case.parts) e refl k
  by_read (Err left) e k = absurd cc

  -- a case fault that is answered is one that the bytes have
  pub bad_case : held_of bytes ≡ Err (fault.BadCase f) → HasCaseFault bytes f
  bad_case e = by_read (front.read (lines_of bytes)) refl (judged_case (case_fault (front.read (lines_of bytes))) (file_answer held_format bytes) f e)

  -- a case fault that the bytes have is answered
  pub only_bad_case : HasCaseFault bytes f → held_of bytes ≡ Err (fault.BadCase f)
  only_bad_case h =
      let c = h.certificate in
      let fits : front.fits c ≡ true = and_from _ _ refl (and_from _ _ refl h.fits) in
      let whole : bytes ≡ concat (front.print c) ++ h.rest = h.begins ∙ sym (append_assoc first_line (cert_text c) h.rest) ∙ ap (λ (x : List ℕ). x ++ h.rest) (sym (front_text c)) in
      let first : front.read (lines_of bytes) ≡ Ok (c, lines_of h.rest) =
      ap front.read (ap lines_of whole ∙ lines_then (front.print c) h.rest (front_is_exact.plain c fits)) ∙ front_is_exact.again c fits (lines_of h.rest) in
      fault_at bytes c (lines_of h.rest) first f h.refused

-- ---- the form

-- the text of a held certificate begins as one
pub held_form : (h : HeldCertificate) → is_held_form (held_text h) ≡ true
held_form h =
    ap is_held_form
    (parts_of_text h ∙ ap (λ (x : List ℕ). x ++ (cert_text h.certificate ++ (concat ((held h.certificate.case).print h.held) ++ codes "end\n"))) first_is)

-- the text of a certificate without held stocks doesn't begin as a held one
pub plain_form : (c : Certificate) → is_held_form (cert_text c) ≡ false
plain_form c = refl
