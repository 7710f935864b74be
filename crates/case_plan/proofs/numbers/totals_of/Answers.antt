use Rattle.std.proofs.Common.{◌+◌, ap, ◌∙◌, arith}
use Rattle.case_plan.proofs.Sums.{both_more, costs_room, ends_room, part_all, part_more}
use Rattle.case_plan.proofs.numbers.totals_of.Goals as goal

pub loop-f-preserved : goal.loop-f-preserved
loop-f-preserved c =
    let i = c.loop-f.invariant in
    let curves = c.args.curves.now in
    let picks = c.args.picks.now in
    let f = c.loop-f.f in
    let v = c.pick_of-point.result.now in
    let is = c.pick_of-point.ensures.is in
    let range = c.pick_of-point.ensures.range in
    record {
      cost = ap (λ x. x + v.cost) i.cost ∙ part_more (λ v. v.cost) curves picks f v is;
      lo = ap (λ x. x + v.lo) i.lo ∙ part_more (λ v. v.lo) curves picks f v is;
      hi = ap (λ x. x + v.hi) i.hi ∙ part_more (λ v. v.hi) curves picks f v is;
      ordered = both_more c.loop-f.lo c.loop-f.hi v.lo v.hi i.ordered range.ends;
      cost_small = costs_room c.loop-f.cost v.cost f i.cost_small range.cost;
      hi_small = ends_room c.loop-f.hi v.hi f i.hi_small range.hi;
    }

pub returns-clause-cost : goal.returns-clause-cost
returns-clause-cost c = (let e = c.loop-f-test.false in let f = c.loop-f.auto.f-end in c.loop-f.invariant.cost ∙ part_all (λ v. v.cost) c.args.curves.now c.args.picks.now c.loop-f.f (omega (arith, e, f)) c.requires.vertices.count)

pub returns-clause-hi : goal.returns-clause-hi
returns-clause-hi c = (let e = c.loop-f-test.false in let f = c.loop-f.auto.f-end in c.loop-f.invariant.hi ∙ part_all (λ v. v.hi) c.args.curves.now c.args.picks.now c.loop-f.f (omega (arith, e, f)) c.requires.vertices.count)

pub returns-clause-lo : goal.returns-clause-lo
returns-clause-lo c = (let e = c.loop-f-test.false in let f = c.loop-f.auto.f-end in c.loop-f.invariant.lo ∙ part_all (λ v. v.lo) c.args.curves.now c.args.picks.now c.loop-f.f (omega (arith, e, f)) c.requires.vertices.count)
