use Rattle.std.proofs.Common.{◌+◌, ◌-◌, ap, ap₂, ◌∙◌, arith}
use Rattle.hull.specs.Curves.{lagrangian}
use Rattle.case_plan.proofs.Sums.{lagrangians_room, part_all, part_more, widths_room}
use Rattle.case_plan.proofs.numbers.hull_totals.Goals as goal

pub loop-f-preserved : goal.loop-f-preserved
loop-f-preserved c =
    let i = c.loop-f.invariant in
    let curves = c.args.curves.now in
    let picks = c.args.picks.now in
    let f = c.loop-f.f in
    let v = c.pick_of-point.result.now in
    let is = c.pick_of-point.ensures.is in
    let range = c.pick_of-point.ensures.range in
    let w = c.lagrangian_of-lagrangian in
    record {
      lagrangian = ap₂ (λ x y. x + y) i.lagrangian w.ensures.is ∙ part_more (lagrangian c.args.price.p c.args.price.q) curves picks f v is;
      width = ap (λ x. x + (v.hi - v.lo)) i.width ∙ part_more (λ v. v.hi - v.lo) curves picks f v is;
      lagrangian_small = lagrangians_room c.loop-f.lagrangian w.result f i.lagrangian_small w.ensures.small;
      width_small = widths_room c.loop-f.width v.hi v.lo f i.width_small range.hi;
    }

pub returns-clause-lagrangian : goal.returns-clause-lagrangian
returns-clause-lagrangian c = (let e = c.loop-f-test.false in let f = c.loop-f.auto.f-end in c.loop-f.invariant.lagrangian ∙ part_all (lagrangian c.args.price.p c.args.price.q) c.args.curves.now c.args.picks.now c.loop-f.f (omega (arith, e, f)) c.requires.vertices.count)

pub returns-clause-width : goal.returns-clause-width
returns-clause-width c = (let e = c.loop-f-test.false in let f = c.loop-f.auto.f-end in c.loop-f.invariant.width ∙ part_all (λ v. v.hi - v.lo) c.args.curves.now c.args.picks.now c.loop-f.f (omega (arith, e, f)) c.requires.vertices.count)
