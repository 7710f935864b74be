use Rattle.std.proofs.Common.{◌-◌}
use Rattle.std.specs.List.{AllZip, range_with_len}
use Rattle.family_points.specs.Choices.{IsBaseOf}
use Rattle.family_points.proofs.order.bases_of.Given as goal

abbrev pub invariant-loop-j : goal.invariant-loop-j
invariant-loop-j l = AllZip (IsBaseOf l.family) (range_with_len 1 (l.j - 1)) l.bases.items
