-- Demands at the depot, for all parts. No promise of the crate rests on these words.
use Rattle.std.specs.Prelude.{◌≡◌, ℕ, ◌<◌, ◌≤◌, true, List, length, get_or, map}
use Rattle.spares_input.specs.Rows.{is_line}
use Rattle.spares_input.specs.Frames.{part_at}
use Rattle.spares_input.specs.Cases.{CaseRows}
use Rattle.fleet_model.specs.Rows.{all_parts}
use Rattle.fleet_model.specs.Units.{demand_units}

-- the demand for each part, in the unit of its level: for a line unit the sum over at most 15 bases, in 10^-8; for a
-- shop unit the demand that these send on and the depot's repairs need, in 10^-16
pub record AreDepotDemands (c : CaseRows) (demands : List ℕ) : Type 0 where
  pub all : demands ≡ map (λ p. demand_units c p 0) (all_parts c)
  pub lines : (p : ℕ) → p < length c.parts → is_line (part_at c.parts p) ≡ true → get_or demands p 0 ≤ 150000000000000
  pub small : (p : ℕ) → p < length c.parts → get_or demands p 0 ≤ 30000000000000000000000
