use Rattle.std.proofs.Common.{◌≡◌, None, Some, take, map}
use Rattle.spares_input.specs.First.{first}
use Rattle.spares_input.specs.Building.{vacant, missing_rate_at}
use Rattle.spares_input.proofs.case.rows_of_places.Given as goal

abbrev pub invariant-loop-i : goal.invariant-loop-i
invariant-loop-i l = record {
  fault : first (vacant (missing_rate_at l.sites) l.places) l.i ≡ None;
  rows : map (λ r. Some r) l.rows.items ≡ take l.i l.places;
}
