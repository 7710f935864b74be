-- What a well formed certificate has for each family.
use Rattle.std.proofs.Common.{◌≡◌, ◌==◌, ℕ, zero, suc, ◌+◌, ◌<◌, ◌≤◌, Bool, true, false, cond, filter, List, [], ◌∷◌, length, drop, get_or, All, refl, sym, ap, ◌∙◌, subst, arith, count_by}
use Rattle.std.specs.Prelude.{if◌then◌else◌}
use Rattle.std.specs.List.{range_with_len}
use Rattle.std.proofs.lemmas.List.Elements.{All-get_or}
use Rattle.std.proofs.lemmas.Bool.Decides.{nat_tests}
use Rattle.std.proofs.lemmas.List.Sums.{sum_by-cons}
use Rattle.spares_input.specs.declared.rows.PartRow.{PartRow}
use Rattle.spares_input.specs.Rows.{is_line, no_part}
use Rattle.spares_input.specs.Frames.{part_at}
use Rattle.spares_input.specs.Cases.{CaseRows}
use Rattle.fleet_model.specs.Rows.{line_units}
use Rattle.price_certificate.specs.declared.certificate.Certificate.{Certificate}
use Rattle.price_certificate.specs.declared.certificate.Node.{Node}
use Rattle.price_certificate.specs.declared.certificate.Node.TheVariants.{Whole}
use Rattle.price_certificate.specs.Certificates.{IsCover, IsWellFormed}
use Rattle.gap_rules.specs.Refusals.{case_family_count, cover_nodes}

equal : (a b : ℕ) → a == b ≡ true → a ≡ b
equal a b h = grind (arith, nat_tests)

-- the line units are as many as their rows
kept : (parts : List PartRow) (k : ℕ) (xs : List PartRow) → drop k parts ≡ xs → length (filter (λ p. is_line (part_at parts p)) (range_with_len k (length xs))) ≡ count_by is_line xs
kept parts k [] h = refl
kept parts k (x ∷ xs) h =
    let first : part_at parts k ≡ x = head parts k h in
    let rest = kept parts (k + 1) xs (tail parts k h) in
    step (is_line (part_at parts k)) (is_line x) (ap is_line first) rest ∙ sym (sum_by-cons (λ r. cond (is_line r) 1 0) x xs)
  where
    head : (ys : List PartRow) (j : ℕ) → drop j ys ≡ x ∷ xs → get_or ys j no_part ≡ x
    head [] zero e = absurd (cc)
    head [] (suc j) e = absurd (cc)
    head (y ∷ ys) zero e = (cc)
    head (y ∷ ys) (suc j) e = head ys j e

    one : (j : ℕ) → suc j + 1 ≡ suc (j + 1)
    one j = omega arith

    tail : (ys : List PartRow) (j : ℕ) → drop j ys ≡ x ∷ xs → drop (j + 1) ys ≡ xs
    tail [] zero e = absurd (cc)
    tail [] (suc j) e = absurd (cc)
    tail (y ∷ ys) zero e = (cc)
    tail (y ∷ ys) (suc j) e = rw (one j) (tail ys j e)

    step : (a b : Bool) → a ≡ b → length (filter (λ p. is_line (part_at parts p)) (range_with_len (k + 1) (length xs))) ≡ count_by is_line xs
        → length (cond a (k ∷ filter (λ p. is_line (part_at parts p)) (range_with_len (k + 1) (length xs))) (filter (λ p. is_line (part_at parts p)) (range_with_len (k + 1) (length xs)))) ≡ cond b 1 0 + count_by is_line xs
    step true true e r = omega (arith, r)
    step true false e r = absurd (cc)
    step false true e r = absurd (cc)
    step false false e r = omega (arith, r)

-- a case has as many line units as parts that are one
pub lines_counted : (c : CaseRows) → length (line_units c) ≡ count_by is_line c.parts
lines_counted c = kept c.parts 0 c.parts refl

-- a well formed certificate has a floor for each family
pub has_floors : (cert : Certificate) → IsWellFormed cert → length cert.floors ≡ length (line_units cert.case)
has_floors cert h = h.floor_count ∙ sym (lines_counted cert.case)

-- a well formed certificate of format 2 has a cover for each family
pub has_cover : (cert : Certificate) (f : ℕ) → IsWellFormed cert → f < case_family_count cert.case → cert.format ≡ 2 → f < length cert.covers
has_cover cert f h b two = (let s = (h.second two).count in let n = lines_counted cert.case in omega (arith, b, s, n))

few_in : (covers : List (List Node)) (f : ℕ) → All IsCover covers → f < length covers → length (get_or covers f []) ≤ 100000
few_in covers f h b = (All-get_or IsCover covers f [] b h).few

-- no family of a well formed certificate has more than 100,000 nodes
pub few_nodes : (cert : Certificate) (f : ℕ) → IsWellFormed cert → f < case_family_count cert.case → length (cover_nodes cert f) ≤ 100000
few_nodes cert f h b = by_format (cert.format == 2) refl
  where
    by_format : (t : Bool) → cert.format == 2 ≡ t → length (cover_nodes cert f) ≤ 100000
    by_format true e = subst (λ z. length (if z then get_or cert.covers f [] else Whole ∷ []) ≤ 100000) (sym e) (let two : cert.format ≡ 2 = equal cert.format 2 e in few_in cert.covers f (h.second two).covers (has_cover cert f h b two))
    by_format false e = subst (λ z. length (if z then get_or cert.covers f [] else Whole ∷ []) ≤ 100000) (sym e) (omega arith)
