use Rattle.std.proofs.Common.{◌-◌, arith}
use Rattle.marginal_alloc.proofs.Lowest.{none_below}
use Rattle.marginal_alloc.proofs.change.first_below.Goals as goal

pub returns-then-point-top-clause-none : goal.returns-then-point-top-clause-none
returns-then-point-top-clause-none c =
    let pick = c.requires.pick in let back = c.loop-back-test.true in
    none_below c.args.curve.now c.requires.shape c.args.pick c.point.result.now c.point.ensures c.requires.pick
    (c.args.pick - 1 - c.loop-back.back) c.point-in-loop-back.result.now c.point-in-loop-back.ensures (omega (arith, pick, back)) c.if-point-top.true
