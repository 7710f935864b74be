use Rattle.std.proofs.Common.{◌≡◌, drop}
use Rattle.sum_walk.specs.Lanes.{stands, together}
use Rattle.sum_walk.proofs.Parts.{point_of}
use Rattle.sum_walk.proofs.sums.stocks_of.Given as goal

abbrev pub invariant-loop-j : goal.invariant-loop-j
invariant-loop-j g l = (together (point_of 0 0 0 l.stocks.items) (stands (drop l.j l.curves) (drop l.j l.lanes))).stocks ≡ (together l.first (stands l.curves l.lanes)).stocks
