-- What is read as a held certificate is well formed, and it is the one whose text the bytes are.
use Rattle.std.proofs.Common.{◌≡◌, ◌+◌, ◌*◌, ◌/◌, ◌%◌, ◌<◌, ◌≤◌, ◌^◌, ℕ, true, ◌&&◌, List, [], length, get_or, Result, Ok, Err, sym, ap, subst, ◌∙◌, arith}
use Rattle.std.specs.Prelude.{◌==◌, nat_le, IfOk}
use Rattle.std.proofs.lemmas.Bool.{and_parts, eqb-true, leb-true}
use Rattle.std.proofs.lemmas.Nat.{div-mul-add, mod-mul-add}
use Rattle.line_text.specs.Formats.{fits_after}
use Rattle.line_text.specs.Texts.{count_line, number_line, numbers_from}
use Rattle.answers.specs.Answers.{Gives}
use Rattle.answers.specs.declared.stop.Stop.{Stop}
use Rattle.spares_input.specs.Cases.{CaseRows, frame_rows, pair_count}
use Rattle.spares_input.specs.Stocks.{AreStocksOf, StockList, limit_at}
use Rattle.case_lines.specs.Grammar.{case_format}
use Rattle.case_lines.proofs.Public.{fits_at}
use Rattle.price_certificate.specs.declared.certificate.Certificate.{Certificate}
use Rattle.price_certificate.specs.declared.fault.CertFault.{CertFault}
use Rattle.price_certificate.specs.Grammar.{budget_line, certificate_format, covers, family_count, floors, objective_line, price_line, stocks}
use Rattle.price_certificate.specs.Certificates.{IsWellFormed}
use Rattle.price_certificate.proofs.Public.{count_within}
use Rattle.held_certificate.specs.declared.held.HeldCertificate.{HeldCertificate}
use Rattle.held_certificate.specs.Held.{rest, held_line, held_lines, held, front, held_format, IsWellHeld, held_text, held_of}
use Rattle.held_certificate.proofs.Inverse.{again, its_text}
use lib.Chars.{codes}
use Rattle.list_laws.proofs.Public.{place_fits}

is_second : (c : Certificate) → (certificate_format 2).fits c ≡ true → c.format ≡ 2
is_second c h =
    let others = (objective_line c.format).fits c.objective && (case_format.fits c.case && (budget_line.fits c.budget && (price_line.fits c.price && ((floors (family_count c.case.parts)).fits c.floors && ((covers c.format (family_count c.case.parts)).fits c.covers && ((stocks c.case).fits c.stocks && ((count_line (codes "upper") 0 (2 ^ 85)).fits c.upper && ((count_line (codes "bound") 0 (2 ^ 85)).fits c.bound && true)))))))) in
    let p = and_parts ((count_line (codes "spares-certificate") 2 2).fits c.format) others (and_parts true ((count_line (codes "spares-certificate") 2 2).fits c.format && others) h).1 in
    let f = count_within (codes "spares-certificate") 2 2 c.format p.0 in
    omega (arith, f.0, f.1)

-- ---- what is held is within its limits

up_to : (most n : ℕ) → (number_line most).fits n ≡ true → n ≤ most
up_to most n h = leb-true n most (and_parts (nat_le 0 n) (nat_le n most) h).1

held_are : (c : CaseRows) (s : StockList) → (held c).fits s ≡ true → AreStocksOf c s
held_are c s h =
    let n = length c.sites in
    let pairs = pair_count (frame_rows c) in
    let lines = (held_lines c).fits s.list in
    let p = and_parts (s.sites == n) lines h in
    let count = (count_line (codes "held") pairs pairs).fits (length s.list) in
    let each = fits_after (λ _ i. held_line c i) [] (numbers_from 0 (length s.list)) s.list in
    let q = and_parts count each (and_parts true (count && each) p.1).1 in
    let w = count_within (codes "held") pairs pairs (length s.list) q.0 in
    let same : s.sites ≡ n = eqb-true s.sites n p.0 in
    let long : length s.list ≡ pairs = omega (arith, w.0, w.1) in record {
      is_for = record { sites = same; pairs = long };
      limits = λ a k part site.
          let i = a * n + k in
          let z : 0 + i ≡ i = omega arith in
          let within : i < length s.list = subst (λ (m : ℕ). i < m) (sym long) (place_fits a k (length c.parts) n part site) in
          let at : (held_line c i).fits (get_or s.list i 0) ≡ true = subst (λ (j : ℕ). (held_line c j).fits (get_or s.list i 0) ≡ true) z (fits_at (held_line c) [] 0 (length s.list) s.list 0 q.1 i within) in
          let le : get_or s.list i 0 ≤ limit_at c.parts (i / n) (i % n) = up_to (limit_at c.parts (i / n) (i % n)) (get_or s.list i 0) at in
          let pair : get_or s.list i 0 ≤ limit_at c.parts a k = subst (λ (x : ℕ). get_or s.list i 0 ≤ limit_at c.parts a x) (mod-mul-add a n k site) (subst (λ (x : ℕ). get_or s.list i 0 ≤ limit_at c.parts x (i % n)) (div-mul-add a n k site) le) in
          subst (λ (m : ℕ). get_or s.list (a * m + k) 0 ≤ limit_at c.parts a k) (sym same) pair;
    }

pub well_held : (h : HeldCertificate) → held_format.fits h ≡ true → IsWellFormed h.certificate → IsWellHeld h
well_held h f w =
    let c = h.certificate in
    let first = front.fits c in
    let last = (rest c.case).fits (h.held, tt) in
    let a = and_parts first last (and_parts true (first && last) f).1 in
    let form = (count_line (codes "spares-held") 1 1).fits 1 in
    let inner = (certificate_format 2).fits c in
    let b = and_parts form inner (and_parts true (form && inner) a.0).1 in
    record {
      certificate = w;
      format = is_second c b.1;
      held = held_are c.case h.held (and_parts ((held c.case).fits h.held) true a.1).0;
    }

-- ---- what reading answers

-- a held certificate that is answered is well formed, and the bytes are its text
pub found : (bytes : List ℕ) (r : Result HeldCertificate (Stop CertFault)) → Gives (held_of bytes) r → IfOk r (λ h. IsWellFormed h.certificate) → IfOk r (λ h. IsWellHeld h × (bytes ≡ held_text h))
found bytes (Ok h) g w = let p = its_text bytes h g in (well_held h p.0 w, p.1)
found bytes (Err e) g w = tt

-- bytes that are a well formed held certificate's text are answered with it
pub only : (bytes : List ℕ) (r : Result HeldCertificate (Stop CertFault)) → Gives (held_of bytes) r → (h : HeldCertificate) → IsWellHeld h → bytes ≡ held_text h → Gives (Ok h) r
only bytes r g h w e = subst (λ (a : Result HeldCertificate CertFault). Gives a r) (ap held_of e ∙ again h w) g
