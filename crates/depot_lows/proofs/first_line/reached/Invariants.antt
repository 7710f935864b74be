use Rattle.std.proofs.Common.{◌≡◌, ◌<◌, ◌≤◌, drop, length}
use Rattle.family_points.specs.Inputs.{line_high, line_low}
use Rattle.depot_lows.proofs.first_line.reached.Given as goal

abbrev pub invariant-loop-step : goal.invariant-loop-step
invariant-loop-step g l = record {
  some : 0 < length l.stocks;
  shops : drop 1 l.stocks ≡ drop 1 l.fn.stocks;
  least : line_low l.sources.family.now 0 ≤ l.line;
  most : l.line ≤ line_high l.sources.family.now 0;
}
