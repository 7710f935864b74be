use Rattle.std.proofs.Common.{◌∙◌, arith}
use Rattle.hull.specs.Curves.{lagrangian}
use Rattle.case_plan.proofs.Sums.{parts_all}
use Rattle.case_plan.proofs.numbers.floors_at.Goals as goal

pub returns : goal.returns
returns c =
    let e = c.loop-f-test.false in let f = c.loop-f.auto.f-end in
    c.loop-f.invariant ∙ parts_all (lagrangian c.args.price.p c.args.price.q) c.args.curves.now c.args.picks.now c.loop-f.f (omega (arith, e, f)) c.requires.vertices.count
