use Rattle.std.proofs.Common.{arith}
use Rattle.budget_sweep.proofs.Together.{going, sums_move}
use Rattle.budget_sweep.proofs.sums.sums_after.Goals as goal

pub overflow_add-result : goal.overflow_add-result
overflow_add-result c =
    let g = going c.args.curves.now c.args.walk.now c.args.next c.index-curves-next.result c.point-start.result.now
    c.point-end.result.now c.requires.few c.requires.same c.requires.next
    c.index-curves-next.is c.point-start.ensures c.point-end.ensures in
    let a = g.moves.cost in
    let b = g.moves.cost_most in
    let s = c.requires.sums.cost in
    let q = g.told.q in
    record { fits = omega (arith, a, b, s, q) }

pub overflow_sub-result : goal.overflow_sub-result
overflow_sub-result c =
    let g = going c.args.curves.now c.args.walk.now c.args.next c.index-curves-next.result c.point-start.result.now
    c.point-end.result.now c.requires.few c.requires.same c.requires.next
    c.index-curves-next.is c.point-start.ensures c.point-end.ensures in
    let a = g.moves.lo in
    let s = c.requires.sums.lo in
    let p = g.told.p in
    omega (arith, a, s, p)

pub overflow_add-result-2 : goal.overflow_add-result-2
overflow_add-result-2 c =
    let g = going c.args.curves.now c.args.walk.now c.args.next c.index-curves-next.result c.point-start.result.now
    c.point-end.result.now c.requires.few c.requires.same c.requires.next
    c.index-curves-next.is c.point-start.ensures c.point-end.ensures in
    let a = g.moves.hi_most in
    let b = g.moves.end_most in
    let s = c.requires.sums.hi in
    let e = g.end_is in
    record { fits = omega (arith, a, b, s, e) }

pub overflow_sub-result-2 : goal.overflow_sub-result-2
overflow_sub-result-2 c =
    let g = going c.args.curves.now c.args.walk.now c.args.next c.index-curves-next.result c.point-start.result.now
    c.point-end.result.now c.requires.few c.requires.same c.requires.next
    c.index-curves-next.is c.point-start.ensures c.point-end.ensures in
    let a = g.moves.hi in
    let s = c.requires.sums.hi in
    let e = g.end_is in
    let i = g.start_is in
    omega (arith, a, s, e, i)

pub returns : goal.returns
returns c =
    let g = going c.args.curves.now c.args.walk.now c.args.next c.index-curves-next.result c.point-start.result.now
    c.point-end.result.now c.requires.few c.requires.same c.requires.next
    c.index-curves-next.is c.point-start.ensures c.point-end.ensures in
    sums_move c.args.curves.now c.args.walk.now.picks c.args.next.family c.args.next.vertex c.args.sums
    c.args.next.price.p c.args.next.price.q c.point-start.result.now.hi c.point-end.result.now.hi
    g.moves c.requires.sums g.told.vertex g.told.p g.told.q g.start_is g.end_is
