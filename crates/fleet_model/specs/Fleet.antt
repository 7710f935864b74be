-- Availability, the weighted total of backorders, and allocations with their cost.
use Rattle.std.specs.Prelude.{◌≡◌, ℕ, ◌*◌, ◌<◌, ◌≤◌, List, length, sum_by}
use Rattle.exact_model.specs.Fraction.{Fraction, whole, ◌-ℚ◌, ◌*ℚ◌, ◌/ℚ◌}
use Rattle.spares_input.specs.Frames as frames
use Rattle.spares_input.specs.Frames.{part_at}
use Rattle.spares_input.specs.Cases.{CaseRows, frame_rows, pair_count}
use Rattle.spares_input.specs.Stocks.{limit_at}
use Rattle.exact_model.specs.Sums.{sum_over, product_over, power}
use Rattle.fleet_model.specs.Rows.{all_sites, bases, all_parts, line_units, systems, per_system, weight, stock}
use Rattle.fleet_model.specs.Pipelines.{ebo_0j}

-- max(0, 1 - EBO(s_0j) / (N_j Z))^Z, the factor of the line unit l in the availability of base j
unfoldable pub factor : CaseRows → List ℕ → ℕ → ℕ → ℕ → Fraction
factor c s n l j = power (whole 1 -ℚ ebo_0j c s n l j /ℚ whole (systems c j * per_system c l)) (per_system c l)

-- A(j), the product over all line units
unfoldable pub availability : CaseRows → List ℕ → ℕ → ℕ → Fraction
availability c s n j = product_over (line_units c) (λ l. factor c s n l j)

-- (sum of N_j A(j)) / (sum of N_j)
unfoldable pub fleet : CaseRows → List ℕ → ℕ → Fraction
fleet c s n =
    sum_over (bases c) (λ j. whole (systems c j) *ℚ availability c s n j) /ℚ sum_over (bases c)
    (λ j. whole (systems c j))

-- the sum over all bases of the weight of the line unit l times EBO(s_0j)
unfoldable pub family_total : CaseRows → List ℕ → ℕ → ℕ → Fraction
family_total c s n l = sum_over (bases c) (λ j. whole (weight c l) *ℚ ebo_0j c s n l j)

-- the sum of the families' totals over all line units
unfoldable pub case_total : CaseRows → List ℕ → ℕ → Fraction
case_total c s n = sum_over (line_units c) (family_total c s n)

-- a stock for each pair, each within its limit
pub record IsAllocation (c : CaseRows) (s : List ℕ) : Type 0 where
  pub complete : length s ≡ pair_count (frame_rows c)
  pub within : (p k : ℕ) → p < length c.parts → k < length c.sites → stock c s p k ≤ limit_at c.parts p k

-- the cost of the stocks of part p
abbrev pub part_cost : CaseRows → List ℕ → ℕ → ℕ
part_cost c s p = sum_by (λ k. stock c s p k * (part_at c.parts p).cost) (all_sites c)

-- the sum of stock times cost of the part
abbrev pub cost : CaseRows → List ℕ → ℕ
cost c s = sum_by (part_cost c s) (all_parts c)

-- a family: the line unit l and its shop units
abbrev pub family : CaseRows → ℕ → List ℕ
family c l = frames.family_of_line c.parts l

-- the cost of the stocks of the family of the line unit l
abbrev pub family_cost : CaseRows → List ℕ → ℕ → ℕ
family_cost c s l = sum_by (part_cost c s) (family c l)
