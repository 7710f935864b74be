-- The lines of held certificates are exact.
use Rattle.std.proofs.Common.{◌≡◌, ℕ, ◌+◌, ◌/◌, ◌%◌, ◌<◌, ◌≤◌, Bool, true, false, ◌&&◌, List, [], ◌∷◌, ◌++◌, length, get_or, refl, sym, ap, subst, zero, suc, arith, cond}
use Rattle.std.specs.Prelude.{◌==◌, nat_le}
use Rattle.std.specs.List.{All}
use Rattle.std.proofs.lemmas.Bool.{and_parts, and_from, eqb-true, eq-eqb, leb-true}
use Rattle.line_text.specs.Formats.{Format, and_then, fits_after}
use Rattle.line_text.specs.Texts.{word_line, count_line, numbers_from}
use Rattle.line_text.specs.Exact.{IsExact, IsLine}
use Rattle.line_text.proofs.Public.{both_are_exact, as_shape_is_exact, a_field, word_line_is_exact, number_line_is_exact, count_line_is_exact, counted_is_exact}
use Rattle.spares_input.specs.Frames.{part_at}
use Rattle.spares_input.specs.Rows.{IsPartRow, no_part}
use Rattle.spares_input.specs.Cases.{CaseRows, frame_rows, pair_count}
use Rattle.spares_input.specs.Stocks.{limit_at}
use Rattle.spares_input.specs.declared.rows.PartRow.{PartRow}
use Rattle.case_lines.proofs.Public.{few_pairs, are_part_rows}
use Rattle.price_certificate.specs.declared.certificate.Certificate.{Certificate}
use Rattle.price_certificate.specs.Grammar.{certificate_format}
use Rattle.price_certificate.proofs.Public.{certificate_is_exact, fits_case, later_fits, with_sites}
use Rattle.held_certificate.specs.Held.{held_line, held_lines, held, front, held_format}
use lib.Chars.{codes}

-- no limit of a case is above 63, and none of a place past its parts is above 0
abbrev AreSmall : CaseRows → Type 0
AreSmall c = (p k : ℕ) → limit_at c.parts p k ≤ 63

held_lines_are_exact : (c : CaseRows) → pair_count (frame_rows c) ≤ 32000 → AreSmall c → IsExact IsLine (held_lines c)
held_lines_are_exact c h small =
    counted_is_exact (codes "held") (pair_count (frame_rows c)) (pair_count (frame_rows c)) (held_line c) (a_field (codes "held") refl) (omega arith) (omega (arith, h))
    (λ i. number_line_is_exact (limit_at c.parts (i / length c.sites) (i % length c.sites)) (omega (arith, small (i / length c.sites) (i % length c.sites))))

-- the lines of what is held are read back as they were written, and no others are
pub held_is_exact : (c : CaseRows) → pair_count (frame_rows c) ≤ 32000 → AreSmall c → IsExact IsLine (held c)
held_is_exact c h small =
    as_shape_is_exact IsLine (held_lines c) (λ list. record { sites = length c.sites; list = list }) (λ s. s.list) (λ s. s.sites == length c.sites)
    (held_lines_are_exact c h small)
    (λ a f. (refl, eq-eqb (length c.sites) (length c.sites) refl))
    (λ s k f. ap (λ (n : ℕ). with_sites n s.list) (sym (eqb-true s.sites (length c.sites) k)))

one_is : (n : ℕ) → (count_line (codes "spares-held") 1 1).fits n ≡ true → 1 ≡ n
one_is n h =
    let r = nat_le 1 n && nat_le n 1 in
    let p = and_parts (nat_le 1 n) (nat_le n 1) (and_parts true r (and_parts true (true && r) h).1).1 in
    omega (arith, leb-true 1 n p.0, leb-true n 1 p.1)

abbrev headed : Certificate → ℕ → ℕ × Certificate
headed c n = (n, c)

-- so are the first line of a held certificate and the certificate behind it
pub front_is_exact : IsExact IsLine front
front_is_exact =
    as_shape_is_exact IsLine (and_then (count_line (codes "spares-held") 1 1) (λ _. certificate_format 2)) (λ x. x.1) (λ c. (1, c)) (λ _. true)
    (both_are_exact IsLine _ _ (count_line_is_exact (codes "spares-held") 1 1 (a_field (codes "spares-held") refl) (omega arith) (omega arith)) (λ _ _. certificate_is_exact 2 (omega arith)))
    (λ a f. (ap (headed a.1) (one_is a.0 (and_parts ((count_line (codes "spares-held") 1 1).fits a.0) ((certificate_format 2).fits a.1) f).0), refl))
    (λ b h f. refl)

-- a certificate with these lines is one of the usual grammar as well
pub front_fits : (c : Certificate) → front.fits c ≡ true → (certificate_format 1).fits c ≡ true
front_fits c h = later_fits c (and_parts ((count_line (codes "spares-held") 1 1).fits 1) ((certificate_format 2).fits c) (and_parts true ((count_line (codes "spares-held") 1 1).fits 1 && (certificate_format 2).fits c) h).1).1

-- no part of such rows has a limit above 63 at any site
pub small_at : (parts : List PartRow) → All IsPartRow parts → (p k : ℕ) → limit_at parts p k ≤ 63
small_at parts h p k = by_site (k == 0)
  where
    depot : (xs : List PartRow) → All IsPartRow xs → (p : ℕ) → (part_at xs p).max_depot ≤ 63
    depot xs all p = both xs p (λ lt. (all p no_part lt).max_depot)
      where
        both : (xs : List PartRow) (p : ℕ) → (p < length xs → (part_at xs p).max_depot ≤ 63) → (part_at xs p).max_depot ≤ 63
        both [] p h = omega arith
        both (x ∷ xs) zero h = h (omega arith)
        both (x ∷ xs) (suc p) h = both xs p (λ lt. h (omega (arith, lt)))

    base : (xs : List PartRow) → All IsPartRow xs → (p : ℕ) → (part_at xs p).max_base ≤ 63
    base xs all p = both xs p (λ lt. (all p no_part lt).max_base)
      where
        both : (xs : List PartRow) (p : ℕ) → (p < length xs → (part_at xs p).max_base ≤ 63) → (part_at xs p).max_base ≤ 63
        both [] p h = omega arith
        both (x ∷ xs) zero h = h (omega arith)
        both (x ∷ xs) (suc p) h = both xs p (λ lt. h (omega (arith, lt)))

    by_site : (b : Bool) → cond b (part_at parts p).max_depot (part_at parts p).max_base ≤ 63
    by_site true = depot parts h p
    by_site false = base parts h p

-- the lines of a held certificate are read back as they were written, and no others are
pub held_format_is_exact : IsExact IsLine held_format
held_format_is_exact =
    as_shape_is_exact IsLine (and_then front (λ c. and_then (held c.case) (λ _. word_line (codes "end"))))
    (λ x. record { certificate = x.0; held = x.1.0 }) (λ h. (h.certificate, (h.held, tt))) (λ _. true)
    (both_are_exact IsLine _ _ front_is_exact
    (λ c h. let f = fits_case c (front_fits c h) in both_are_exact IsLine _ _ (held_is_exact c.case (few_pairs c.case f) (small_at c.case.parts (are_part_rows c.case f))) (λ _ _. word_line_is_exact (codes "end") (a_field (codes "end") refl))))
    (λ a f. (refl, refl)) (λ h k f. refl)

-- ---- a well formed one has lines

-- where each number fits the format of its place, the list fits the formats of its places
pub each_fits : (format : ℕ → Format ℕ) (xs before : List ℕ) (first : ℕ) → ((j : ℕ) → j < length xs → (format (first + j)).fits (get_or xs j 0) ≡ true) → fits_after (λ _ i. format i) before (numbers_from first (length xs)) xs ≡ true
each_fits format [] before first h = refl
each_fits format (x ∷ xs) before first h =
    let z : first + 0 ≡ first = omega arith in
    and_from _ _ (subst (λ (k : ℕ). (format k).fits x ≡ true) z (h 0 (omega arith)))
    (each_fits format xs (before ++ x ∷ []) (suc first) (λ j lt. let e : first + suc j ≡ suc first + j = omega arith in subst (λ (k : ℕ). (format k).fits (get_or xs j 0) ≡ true) e (h (suc j) (omega (arith, lt)))))
