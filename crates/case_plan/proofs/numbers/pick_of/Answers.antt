use Rattle.std.proofs.Common.{sym, subst, arith}
use Rattle.hull.specs.Curves.{Among, nowhere}
use Rattle.hull.proofs.Public.{among_at}
use Rattle.case_plan.proofs.numbers.pick_of.Goals as goal

pub returns-clause-range : goal.returns-clause-range
returns-clause-range c =
    let l = c.if-prove.false in let n = c.len.ensures.len in
    c.len.ensures.shape.ranges c.point.result.now
    (subst (λ z. Among z c.index-curves-f.result) (sym c.point.ensures) (among_at c.index-curves-f.result _ nowhere (omega (arith, l, n))))
