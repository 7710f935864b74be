use Rattle.std.proofs.Common.{◌≡◌, slice_index, ap, ◌∙◌, arith}
use Rattle.std.proofs.lemmas.List.{get_or_default}
use Rattle.step_walk.specs.Prefix.{vertex_at}
use Rattle.step_walk.proofs.Public.{vertex_is}
use Rattle.marginal_alloc.proofs.Best.{part_of_cost}
use Rattle.marginal_alloc.proofs.Costs.{left_on}
use Rattle.marginal_alloc.proofs.filling.take_change.Goals as goal

pub overflow_add-after : goal.overflow_add-after
overflow_add-after c =
    let curves = c.args.curves.now in
    let picks = c.args.picks.now.items in
    let f = c.args.change.family in
    let fam = c.requires.change.change.family in
    let n = c.requires.vertices.count in
    let pick : c.index-pick.result.now ≡ slice_index picks f = c.index-pick.ensures ∙ get_or_default picks f c.index-pick.result.now 0 (omega (arith, fam, n)) in
    let here = vertex_is curves f c.index-pick.result.now c.index-curves-change.result c.point.result.now c.index-curves-change.is fam c.point.ensures ∙ ap (λ i. vertex_at curves f i) pick in
    let part = part_of_cost curves picks f fam n in
    let cost = ap (λ v. v.cost) here in
    let money = c.requires.money in
    omega (arith, part, cost, money)

pub overflow_sub-after : goal.overflow_sub-after
overflow_sub-after c =
    let curves = c.args.curves.now in
    let picks = c.args.picks.now.items in
    let f = c.args.change.family in
    let k = c.args.change.vertex in
    let b = c.requires.change in
    let fam = b.change.family in
    let n = c.requires.vertices.count in
    let pick : c.index-pick.result.now ≡ slice_index picks f = c.index-pick.ensures ∙ get_or_default picks f c.index-pick.result.now 0 (omega (arith, fam, n)) in
    let here = vertex_is curves f c.index-pick.result.now c.index-curves-change.result c.point.result.now c.index-curves-change.is fam c.point.ensures ∙ ap (λ i. vertex_at curves f i) pick in
    let there = vertex_is curves f k c.index-curves-change.result c.point-2.result.now c.index-curves-change.is fam c.point-2.ensures in
    (left_on curves picks c.args.left f k c.point.result.now c.point-2.result.now b n here there).0

pub returns-clause-money : goal.returns-clause-money
returns-clause-money c =
    let curves = c.args.curves.now in
    let picks = c.args.picks.now.items in
    let f = c.args.change.family in
    let k = c.args.change.vertex in
    let b = c.requires.change in
    let fam = b.change.family in
    let n = c.requires.vertices.count in
    let pick : c.index-pick.result.now ≡ slice_index picks f = c.index-pick.ensures ∙ get_or_default picks f c.index-pick.result.now 0 (omega (arith, fam, n)) in
    let here = vertex_is curves f c.index-pick.result.now c.index-curves-change.result c.point.result.now c.index-curves-change.is fam c.point.ensures ∙ ap (λ i. vertex_at curves f i) pick in
    let there = vertex_is curves f k c.index-curves-change.result c.point-2.result.now c.index-curves-change.is fam c.point-2.ensures in
    (left_on curves picks c.args.left f k c.point.result.now c.point-2.result.now b n here there).1
