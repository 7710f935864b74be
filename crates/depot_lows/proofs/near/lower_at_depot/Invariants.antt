use Rattle.std.proofs.Common.{◌+◌, ◌*◌, ◌^◌, ◌≤◌}
use Rattle.depot_lows.proofs.near.lower_at_depot.Given as goal

abbrev pub invariant-loop-j : goal.invariant-loop-j
invariant-loop-j g l = record {
  most_low : l.sums.at_low ≤ (l.j + 15) * 2 ^ 115;
  most_high : l.sums.at_high ≤ (l.j + 15) * 2 ^ 115;
}
