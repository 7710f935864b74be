use Rattle.std.proofs.Common.{◌≤◌, slice_index, sym, ap, subst, arith}
use Rattle.hull.specs.Curves.{Among, nowhere}
use Rattle.hull.proofs.Public.{among_at}
use Rattle.step_walk.proofs.Public.{vertex_is}
use Rattle.marginal_alloc.proofs.Costs.{from_next, from_end}
use Rattle.marginal_alloc.proofs.filling.cost_at.Goals as goal

small : (c : goal.After-point) → c.point.result.now.cost ≤ 1000000000000
small c =
    let r = c.index-curves-f.result in
    let l = c.if-prove.false in let n = c.len.ensures.len in
    (c.len.ensures.shape.ranges c.point.result.now (subst (λ v. Among v r) (sym c.point.ensures) (among_at r (slice_index c.args.picks.now c.loop-f.f) nowhere (omega (arith, l, n))))).cost

pub overflow_add-cost : goal.overflow_add-cost
overflow_add-cost c =
    let s = small c in
    let i = c.loop-f.invariant.small in
    let l = c.loop-f-test.true in let few = c.requires.few in
    omega (arith, s, i, l, few)

pub loop-f-preserved : goal.loop-f-preserved
loop-f-preserved c =
    let curves = c.args.curves.now in
    let picks = c.args.picks.now in
    let f = c.loop-f.f in
    let r = c.index-curves-f.result in
    let fam = c.loop-f-test.true in
    let l = c.if-prove.false in let n = c.len.ensures.len in
    let e = from_next curves picks f fam c.requires.vertices.count in
    let v = ap (λ x. x.cost) (vertex_is curves f (slice_index picks f) r c.point.result.now c.index-curves-f.is fam c.point.ensures) in
    let s = (c.len.ensures.shape.ranges c.point.result.now (subst (λ v. Among v r) (sym c.point.ensures) (among_at r (slice_index picks f) nowhere (omega (arith, l, n))))).cost in
    let i = c.loop-f.invariant.cost in
    let j = c.loop-f.invariant.small in
    record { cost = omega (arith, e, v, i); small = omega (arith, s, j) }

pub returns : goal.returns
returns c =
    let past = c.loop-f-test.false in
    let end = c.loop-f.auto.f-end in
    let e = from_end c.args.curves.now c.args.picks.now c.loop-f.f (omega (arith, past, end)) in
    let i = c.loop-f.invariant.cost in
    omega (arith, e, i)
