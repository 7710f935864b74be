use Rattle.std.proofs.Common.{◌≡◌, ◌-◌, ◌*◌, ◌≤◌, ◌^◌}
use Rattle.fixed_interval.specs.Ends.{ends_power}
use Rattle.availability.specs.Profile.{filled_ends}
use Rattle.availability.proofs.factor.Given as goal

abbrev pub invariant-loop-k : goal.invariant-loop-k
invariant-loop-k g l = record {
  all : l.all ≡ ends_power g.row.F (filled_ends g.row.F l.fn.backorders (l.fn.systems * l.fn.per_system)) (l._k - 1);
  most : l.all.hi ≤ 2 ^ g.row.F;
}
