use Rattle.std.proofs.Common.{slice_index, sym, subst, arith}
use Rattle.hull.specs.Curves.{Among, InRange, nowhere}
use Rattle.hull.proofs.Public.{among_at}
use Rattle.step_walk.proofs.Public.{vertex_is}
use Rattle.budget_sweep.proofs.Together.{summed_more, summed_all}
use Rattle.budget_sweep.proofs.sums.sums_at.Goals as goal

pub overflow_add-sums : goal.overflow_add-sums
overflow_add-sums c =
    let r = c.index-curves-f.result in
    let l = c.if-prove.false in
    let n = c.len.ensures.len in
    let s : InRange c.point-vertex.result.now =
    c.len.ensures.shape.ranges c.point-vertex.result.now
    (subst (λ v. Among v r) (sym c.point-vertex.ensures)
    (among_at r (slice_index c.args.picks.now c.loop-f.f) nowhere (omega (arith, l, n)))) in
    let a = s.cost in
    let i = c.loop-f.invariant.summed.small_cost in
    let few = c.requires.few in
    let t = c.loop-f-test.true in
    record { fits = omega (arith, a, i, few, t) }

pub overflow_add-sums-in-loop-f : goal.overflow_add-sums-in-loop-f
overflow_add-sums-in-loop-f c =
    let r = c.index-curves-f.result in
    let l = c.if-prove.false in
    let n = c.len.ensures.len in
    let s : InRange c.point-vertex.result.now =
    c.len.ensures.shape.ranges c.point-vertex.result.now
    (subst (λ v. Among v r) (sym c.point-vertex.ensures)
    (among_at r (slice_index c.args.picks.now c.loop-f.f) nowhere (omega (arith, l, n)))) in
    let a = s.ends in
    let b = s.hi in
    let i = c.loop-f.invariant.summed.small_lo in
    let few = c.requires.few in
    let t = c.loop-f-test.true in
    record { fits = omega (arith, a, b, i, few, t) }

pub overflow_add-sums-in-loop-f-2 : goal.overflow_add-sums-in-loop-f-2
overflow_add-sums-in-loop-f-2 c =
    let r = c.index-curves-f.result in
    let l = c.if-prove.false in
    let n = c.len.ensures.len in
    let s : InRange c.point-vertex.result.now =
    c.len.ensures.shape.ranges c.point-vertex.result.now
    (subst (λ v. Among v r) (sym c.point-vertex.ensures)
    (among_at r (slice_index c.args.picks.now c.loop-f.f) nowhere (omega (arith, l, n)))) in
    let b = s.hi in
    let i = c.loop-f.invariant.summed.small_hi in
    let few = c.requires.few in
    let t = c.loop-f-test.true in
    record { fits = omega (arith, b, i, few, t) }

pub loop-f-preserved : goal.loop-f-preserved
loop-f-preserved c =
    let r = c.index-curves-f.result in
    let l = c.if-prove.false in
    let n = c.len.ensures.len in
    let s : InRange c.point-vertex.result.now =
    c.len.ensures.shape.ranges c.point-vertex.result.now
    (subst (λ v. Among v r) (sym c.point-vertex.ensures)
    (among_at r (slice_index c.args.picks.now c.loop-f.f) nowhere (omega (arith, l, n)))) in
    record {
      summed = summed_more c.args.curves.now c.args.picks.now c.loop-f.f c.loop-f.sums c.point-vertex.result.now s
          (vertex_is c.args.curves.now c.loop-f.f (slice_index c.args.picks.now c.loop-f.f) r c.point-vertex.result.now
          c.index-curves-f.is c.loop-f-test.true c.point-vertex.ensures)
          c.loop-f.invariant.summed;
    }

pub returns : goal.returns
returns c =
    let past = c.loop-f-test.false in
    let end = c.loop-f.auto.f-end in
    summed_all c.args.curves.now c.args.picks.now c.loop-f.f c.loop-f.sums (omega (arith, past, end))
    c.requires.vertices.count c.loop-f.invariant.summed
