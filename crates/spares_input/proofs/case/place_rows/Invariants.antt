use Rattle.std.proofs.Common.{◌≡◌, ◌*◌, None, take, is_some, count_by}
use Rattle.spares_input.specs.First.{first}
use Rattle.spares_input.specs.Cases.{double_rate, rate_place}
use Rattle.spares_input.specs.Building.{ArePlaced}
use Rattle.spares_input.proofs.case.place_rows.Given as goal

abbrev pub invariant-loop-k : goal.invariant-loop-k
invariant-loop-k l = record {
  fault : first (double_rate l.sites l.rows) l.k ≡ None;
  placed : ArePlaced (rate_place l.sites) (l.parts * l.sites) (take l.k l.rows) l.places.items;
  taken : count_by is_some l.places.items ≡ l.k;
}
