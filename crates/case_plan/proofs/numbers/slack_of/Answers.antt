use Rattle.std.proofs.Common.{sym, subst, arith}
use Rattle.hull.specs.Curves.{Among, InRange, nowhere}
use Rattle.hull.proofs.Public.{among_at}
use Rattle.case_plan.proofs.numbers.slack_of.Goals as goal

range : (c : goal.After-point-point) → InRange c.point-point.result.now
range c =
    let l = c.if-prove.false in let n = c.len.ensures.len in
    c.len.ensures.shape.ranges c.point-point.result.now
    (subst (λ z. Among z c.index-curves-step.result) (sym c.point-point.ensures) (among_at c.index-curves-step.result c.in-Some.step.vertex nowhere (omega (arith, l, n))))

pub overflow_sub-result : goal.overflow_sub-result
overflow_sub-result c = (range c).ends

pub returns-clause-small : goal.returns-clause-small
returns-clause-small c =
    let l = c.if-prove.false in let n = c.len.ensures.len in
    let r = c.len.ensures.shape.ranges c.point-point.result.now
    (subst (λ z. Among z c.index-curves-step.result) (sym c.point-point.ensures) (among_at c.index-curves-step.result c.in-Some.step.vertex nowhere (omega (arith, l, n)))) in
    let h = r.hi in
    omega (arith, h)
