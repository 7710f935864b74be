use Rattle.std.proofs.Common.{◌≡◌, ◌+◌, ◌-◌, ◌<◌, [], length, slice_index, sym, ap, ◌∙◌, subst, arith}
use Rattle.std.proofs.lemmas.List.{get_or_default}
use Rattle.hull.specs.Curves.{IsShape, point_at}
use Rattle.marginal_alloc.specs.declared.change.Change.{Change}
use Rattle.price_bounds.specs.Sums.{cost_of}
use Rattle.step_walk.specs.Prefix.{curve_at, vertex_at, picked}
use Rattle.marginal_alloc.specs.Filling.{gain}
use Rattle.marginal_alloc.specs.Changes.{IsBestAmong}
use Rattle.step_walk.proofs.Public.{vertex_is}
use Rattle.marginal_alloc.proofs.Along.{lo_below}
use Rattle.marginal_alloc.proofs.Best.{part_of_cost, lowest_is, bounded, no_better, better}
use Rattle.marginal_alloc.proofs.change.better_of.Goals as goal

pub overflow_sub-here : goal.overflow_sub-here
overflow_sub-here c =
    let f = c.args.family in
    let r = c.index-curves-family.result in
    let shape = c.len.ensures.shape in
    let some = shape.some in
    let count = c.len.ensures.len in
    let within : slice_index c.args.picks.now f < length r = subst (λ x. slice_index c.args.picks.now f < length x) (sym (c.index-curves-family.is ∙ get_or_default c.args.curves.now f r [] c.requires.family)) c.requires.pick in
    let low = lo_below r shape (slice_index c.args.picks.now f) (length r - 1) (omega (arith, within)) (omega (arith, some)) in
    let here = ap (λ v. v.hi) c.point-here.ensures in
    let end : c.point-end.result.now.lo ≡ (point_at r (length r - 1)).lo = ap (λ v. v.lo) c.point-end.ensures ∙ ap (λ n. (point_at r (n - 1)).lo) count in
    omega (arith, low, here, end)

pub returns-then-here-end : goal.returns-then-here-end
returns-then-here-end c =
    let curves = c.args.curves.now in
    let f = c.args.family in
    let r = c.index-curves-family.result in
    let is : r ≡ curve_at curves f = c.index-curves-family.is ∙ get_or_default curves f r [] c.requires.family in
    let shape : IsShape (curve_at curves f) = subst IsShape is c.len.ensures.shape in
    let some = c.len.ensures.shape.some in
    let count = c.len.ensures.len in
    let here = vertex_is curves f (slice_index c.args.picks.now f) r c.point-here.result.now c.index-curves-family.is c.requires.family c.point-here.ensures in
    let end = vertex_is curves f (c.len.result - 1) r c.point-end.result.now c.index-curves-family.is c.requires.family c.point-end.ensures in
    let last : c.len.result - 1 ≡ length (curve_at curves f) - 1 = ap (λ n. n - 1) (count ∙ ap length is) in
    bounded curves c.args.picks.now c.args.left f c.requires.family c.requires.count shape c.point-here.result.now.hi c.point-end.result.now.lo c.gain_of-least.result
    (ap (λ v. v.hi) here) (ap (λ v. v.lo) end ∙ ap (λ n. (vertex_at curves f n).lo) last) c.if-here-end.true c.args.best c.gain_of-least.ensures c.requires.best

pub overflow_add-left : goal.overflow_add-left
overflow_add-left c =
    let curves = c.args.curves.now in
    let f = c.args.family in
    let r = c.index-curves-family.result in
    let is : r ≡ curve_at curves f = c.index-curves-family.is ∙ get_or_default curves f r [] c.requires.family in
    let here = ap (λ v. v.cost) (vertex_is curves f (slice_index c.args.picks.now f) r c.point-here.result.now c.index-curves-family.is c.requires.family c.point-here.ensures) in
    let part = part_of_cost curves c.args.picks.now f c.requires.family c.requires.count in
    let money = c.requires.money in
    omega (arith, here, part, money)

pub returns-then-gain-least : goal.returns-then-gain-least
returns-then-gain-least c =
    let curves = c.args.curves.now in
    let f = c.args.family in
    let v = c.lowest_vertex-vertex.result in
    let r = c.index-curves-family.result in
    let is : r ≡ curve_at curves f = c.index-curves-family.is ∙ get_or_default curves f r [] c.requires.family in
    let here = vertex_is curves f (slice_index c.args.picks.now f) r c.point-here.result.now c.index-curves-family.is c.requires.family c.point-here.ensures in
    let there = vertex_is curves f v r c.point.result.now c.index-curves-family.is c.requires.family c.point.ensures in
    let lowest = lowest_is r (curve_at curves f) (slice_index c.args.picks.now f) (c.args.left + c.point-here.result.now.cost) (c.args.left + (vertex_at curves f (slice_index c.args.picks.now f)).cost) v
    is (ap (λ x. c.args.left + x.cost) here) c.lowest_vertex-vertex.ensures in
    let small = c.if-gain-least.true in
    let a = ap (λ x. x.hi) here in
    let b = ap (λ x. x.hi) there in
    no_better curves c.args.picks.now c.args.left f c.requires.family c.requires.count v lowest c.gain_of-least.result (omega (arith, small, a, b)) c.args.best c.gain_of-least.ensures c.requires.best

pub returns : goal.returns
returns c =
    let curves = c.args.curves.now in
    let f = c.args.family in
    let v = c.lowest_vertex-vertex.result in
    let r = c.index-curves-family.result in
    let is : r ≡ curve_at curves f = c.index-curves-family.is ∙ get_or_default curves f r [] c.requires.family in
    let here = vertex_is curves f (slice_index c.args.picks.now f) r c.point-here.result.now c.index-curves-family.is c.requires.family c.point-here.ensures in
    let there = vertex_is curves f v r c.point.result.now c.index-curves-family.is c.requires.family c.point.ensures in
    let lowest = lowest_is r (curve_at curves f) (slice_index c.args.picks.now f) (c.args.left + c.point-here.result.now.cost) (c.args.left + (vertex_at curves f (slice_index c.args.picks.now f)).cost) v
    is (ap (λ x. c.args.left + x.cost) here) c.lowest_vertex-vertex.ensures in
    let more = c.if-gain-least.false in
    let a = ap (λ x. x.hi) here in
    let b = ap (λ x. x.hi) there in
    let own : gain curves c.args.picks.now f v ≡ c.point-here.result.now.hi - c.point.result.now.hi = omega (arith, a, b) in
    subst (λ g. IsBestAmong curves (cost_of (picked curves c.args.picks.now) + c.args.left) c.args.picks.now (f + 1) (let x : Change = record { family = f; vertex = v; gain = g } in x)) own
    (better curves c.args.picks.now c.args.left f c.requires.family c.requires.count v lowest c.gain_of-least.result (omega (arith, more, own)) c.args.best c.gain_of-least.ensures c.requires.best)
