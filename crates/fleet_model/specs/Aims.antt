-- The aim of a choice of stocks, and the allocations to choose from if some stocks are held already.
use Rattle.std.specs.Prelude.{ℕ, ◌-◌, ◌*◌, ◌<◌, ◌≤◌, List, length, sum_by}
use Rattle.exact_model.specs.Fraction.{Fraction, whole, ◌*ℚ◌}
use Rattle.exact_model.specs.Sums.{sum_over}
use Rattle.spares_input.specs.Frames.{part_at}
use Rattle.spares_input.specs.Cases.{CaseRows}
use Rattle.fleet_model.specs.Rows.{all_sites, bases, all_parts, line_units, systems, per_system, weight, stock}
use Rattle.fleet_model.specs.Pipelines.{ebo_0j}
use Rattle.fleet_model.specs.Fleet.{family, IsAllocation}

-- the value of the backorders of a line unit at a base: by the systems there, the number of the line unit in a system,
-- its weight, the expected backorders, and the depth at which series are cut
abbrev pub Value : Type 0
Value = ℕ → ℕ → ℕ → Fraction → ℕ → Fraction

-- the plain value: the weight times the backorders
abbrev pub weighted_backorders : Value
weighted_backorders systems per_system weight backorders n = whole weight *ℚ backorders

-- the sum over all bases of the value of the line unit l
unfoldable pub family_aim : Value → CaseRows → List ℕ → ℕ → ℕ → Fraction
family_aim value c s n l = sum_over (bases c)
    (λ j. value (systems c j) (per_system c l) (weight c l) (ebo_0j c s n l j) n)

-- the aim, which is to be small: the sum over all line units
unfoldable pub aim : Value → CaseRows → List ℕ → ℕ → Fraction
aim value c s n = sum_over (line_units c) (family_aim value c s n)

-- an allocation with at least the stocks held; if nothing is held, that list is empty
pub record IsHeldAllocation (c : CaseRows) (held s : List ℕ) : Type 0 where
  pub allocation : IsAllocation c s
  pub keeps : (p k : ℕ) → p < length c.parts → k < length c.sites → stock c held p k ≤ stock c s p k

-- the cost of the stocks of part p beyond those held
abbrev pub part_cost_beyond : CaseRows → List ℕ → List ℕ → ℕ → ℕ
part_cost_beyond c held s p = sum_by (λ k. (stock c s p k - stock c held p k) * (part_at c.parts p).cost) (all_sites c)

-- the cost of the stocks of the family of the line unit l beyond those held
abbrev pub family_cost_beyond : CaseRows → List ℕ → List ℕ → ℕ → ℕ
family_cost_beyond c held s l = sum_by (part_cost_beyond c held s) (family c l)

-- the cost of all stocks beyond those held
abbrev pub cost_beyond : CaseRows → List ℕ → List ℕ → ℕ
cost_beyond c held s = sum_by (part_cost_beyond c held s) (all_parts c)
