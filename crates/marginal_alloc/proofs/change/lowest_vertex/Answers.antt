use Rattle.std.proofs.Common.{arith}
use Rattle.marginal_alloc.proofs.Lowest.{ends}
use Rattle.marginal_alloc.proofs.change.lowest_vertex.Goals as goal

pub returns-then-vertex-room : goal.returns-then-vertex-room
returns-then-vertex-room c =
    let l = c.loop-k-test.true in let n = c.len-k-end.ensures.len in
    ends c.args.curve.now c.args.pick c.args.room c.loop-k.k c.loop-k.lowest c.requires.shape c.point-vertex.result.now c.point-vertex.ensures (omega (arith, l, n)) c.if-vertex-room.true c.loop-k.invariant
