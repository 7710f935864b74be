use Rattle.std.proofs.Common.{◌≡◌, ◌<◌, drop, length}
use Rattle.depot_lows.proofs.near.lower_at_lines.Given as goal

abbrev pub invariant-loop-s : goal.invariant-loop-s
invariant-loop-s g l = record {
  some : 0 < length l.stocks;
  shops : drop 1 l.stocks ≡ drop 1 l.fn.stocks;
}
