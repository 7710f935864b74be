use Rattle.std.proofs.Common.{◌≡◌, ◌≤◌, ◌*◌, ◌^◌, take}
use Rattle.availability.specs.Profile.{weighted_sum, all_systems}
use Rattle.availability.proofs.fleet.Given as goal

abbrev pub invariant-loop-base : goal.invariant-loop-base
invariant-loop-base g l = record {
  sum : l.sum ≡ weighted_sum g.row.F (take l.base-index l.bases);
  systems : l.systems ≡ all_systems (take l.base-index l.bases);
  some : l.base-index ≤ l.systems;
  few : l.systems ≤ l.base-index * 10000;
  most : l.sum.hi ≤ 2 ^ g.row.F * l.systems;
}
