use Rattle.std.proofs.Common.{arith}
use Rattle.series_bounds.proofs.Beginnings.{begins_more}
use Rattle.series_bounds.proofs.walk.hold.Goals as goal

pub returns-in_ok-push : goal.returns-in_ok-push
returns-in_ok-push g c u x h e = rw c.in_ok-push.ensures.items
    (begins_more u c.args.wanted x c.args.list.now.items c.args.weight h (omega (arith, c.if-len-wanted.true, c.len.ensures)) e)
