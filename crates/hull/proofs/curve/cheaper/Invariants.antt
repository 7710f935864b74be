use Rattle.std.proofs.Common.{◌≤◌, length}
use Rattle.hull.proofs.curve.cheaper.Given as goal

abbrev pub invariant-loop-count : goal.invariant-loop-count
invariant-loop-count l = l.count ≤ length l.vertices

abbrev pub decreases-loop-count : goal.decreases-loop-count
decreases-loop-count l = l.count
