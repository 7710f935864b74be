use Rattle.std.proofs.Common.{◌≡◌, ◌*◌, ◌^◌, ◌≤◌, sum, take}
use Rattle.gap_rules.proofs.bound.sum_of.Given as goal

abbrev pub invariant-loop-floor : goal.invariant-loop-floor
invariant-loop-floor l = record { sum_is : l.sum ≡ sum (take l.floor-index l.floors); most : l.sum ≤ l.floor-index * 2 ^ 115 }
