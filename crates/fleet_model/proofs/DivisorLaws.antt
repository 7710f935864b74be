-- In a valid case no divisor of the availabilities is 0.
use Rattle.std.proofs.Common.{◌≡◌, ℕ, ◌-◌, ◌<◌, true, Bool, not, length, arith, ap, eq-zero-or-pos, inl, inr}
use Rattle.exact_model.specs.Fraction.{Fraction, whole, ◌≤ℚ◌}
use Rattle.spares_input.specs.Rows.{is_line, no_site, no_part, IsNumberField}
use Rattle.spares_input.specs.Frames.{site_at, part_at}
use Rattle.spares_input.specs.Cases.{CaseRows, IsCase}
use Rattle.exact_model.specs.Sums.{sum_over}
use Rattle.fleet_model.specs.Rows.{bases, systems, per_system}
use Rattle.fleet_model.specs.Laws.{IsBase}
use Rattle.fleet_model.proofs.Order.{none_below}
use Rattle.fleet_model.proofs.SumLaws.{term_most}

some_used : (used : Bool) (most n : ℕ) → IsNumberField used 1 most n → used ≡ true → 0 < n
some_used used most n f e = omega (arith, (f.within e).0)

-- each base of a valid case has a system
pub systems_positive : (c : CaseRows) (j : ℕ) → IsCase c → IsBase c j → 0 < systems c j
systems_positive c j h b =
    let row = h.frame.site_rows j no_site b.1 in
    some_used (not (site_at c.sites j).depot) 10000 (systems c j) row.systems (ap (λ d. not d) (h.frame.bases j b.0 b.1))

-- a system of a valid case has at least one of each line unit
pub per_system_positive : (c : CaseRows) (l : ℕ) → IsCase c → l < length c.parts → is_line (part_at c.parts l) ≡ true → 0 < per_system c l
per_system_positive c l h w e =
    let row = h.frame.part_rows l no_part w in
    some_used (is_line (part_at c.parts l)) 100 (per_system c l) row.per_system e

above : (q r : Fraction) → q ≤ℚ r → 0 < q.num → 0 < r.num
above q r h p = elim (eq-zero-or-pos r.num) as (λ _. 0 < r.num) [
  | inl z ↦ absurd (omega (arith, none_below q r h z))
  | inr k ↦ k
]

-- all bases of a valid case together have a system
pub all_systems_positive : (c : CaseRows) → IsCase c → 0 < (sum_over (bases c) (λ j. whole (systems c j))).num
all_systems_positive c h =
    above (whole (systems c 1)) (sum_over (bases c) (λ j. whole (systems c j)))
    (term_most (λ j. whole (systems c j)) (length c.sites - 1) 1 1 (omega arith) (omega (arith, h.frame.fewest_sites)))
    (unfold whole in systems_positive c 1 h (omega arith, omega (arith, h.frame.fewest_sites)))
