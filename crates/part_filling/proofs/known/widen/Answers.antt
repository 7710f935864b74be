use Rattle.std.proofs.Common.{◌≡◌, slice_index, sym, ap, ◌∙◌, subst, arith}
use Rattle.std.proofs.lemmas.List.{get_or_default}
use Rattle.hull.specs.declared.point.Point.{Point}
use Rattle.step_walk.specs.Prefix.{vertex_at}
use Rattle.step_walk.proofs.Public.{vertex_is}
use Rattle.part_filling.specs.Known.{HasCost}
use Rattle.part_filling.proofs.Wider.{has_cost, known_set, pick_found, picked_set}
use Rattle.part_filling.proofs.known.widen.Goals as goal

pub place_at-place-requires : goal.place_at-place-requires
place_at-place-requires g c =
    let known = c.args.known.now.curves.items in
    let picks = c.args.known.now.picks.items in
    let f = c.args.family in
    let fam = c.requires.family in
    let n = c.requires.vertices.count in
    let pick : c.index-2.result.now ≡ slice_index picks f = c.index-2.ensures ∙ get_or_default picks f c.index-2.result.now 0 (omega (arith, fam, n)) in
    let here : c.point.result.now ≡ vertex_at known f (slice_index picks f) =
    vertex_is known f c.index-2.result.now c.index.result.now c.point.result.now c.index.ensures fam c.point.ensures ∙ ap (vertex_at known f) pick in
    subst (λ (v : Point). HasCost c.in_ok-part.part v.cost) (sym here)
    (has_cost (g.F.Families.points c.args.families.now) known c.args.known.now.windows.items c.args.known.now.beyond.items picks c.requires.families c.requires.known c.requires.vertices f fam c.args.window c.requires.window c.requires.within c.in_ok-part.part c.in_ok-part.ensures.is c.in_ok-part.beyond c.in_ok-part.ensures.behind)

pub returns-clause-known : goal.returns-clause-known
returns-clause-known g c =
    known_set (g.F.Families.points c.args.families.now) c.args.known.now.curves.items c.args.known.now.windows.items c.args.known.now.beyond.items c.args.known.now.picks.items
    c.requires.families c.requires.known c.requires.vertices c.args.family c.requires.family c.args.window c.requires.window c.requires.within c.in_ok-part.part c.in_ok-part.ensures.is c.in_ok-part.beyond c.in_ok-part.ensures.behind

pub returns-clause-picks : goal.returns-clause-picks
returns-clause-picks g c =
    let known = c.args.known.now.curves.items in
    let picks = c.args.known.now.picks.items in
    let f = c.args.family in
    let fam = c.requires.family in
    let n = c.requires.vertices.count in
    let pick : c.index-2.result.now ≡ slice_index picks f = c.index-2.ensures ∙ get_or_default picks f c.index-2.result.now 0 (omega (arith, fam, n)) in
    let here : c.point.result.now ≡ vertex_at known f (slice_index picks f) =
    vertex_is known f c.index-2.result.now c.index.result.now c.point.result.now c.index.ensures fam c.point.ensures ∙ ap (vertex_at known f) pick in
    picked_set known picks f c.in_ok-part.part c.place_at-place.result fam n
    (pick_found (g.F.Families.points c.args.families.now) known c.args.known.now.windows.items c.args.known.now.beyond.items picks c.requires.families c.requires.known c.requires.vertices f fam c.args.window c.requires.window c.requires.within c.in_ok-part.part c.in_ok-part.ensures.is c.in_ok-part.beyond c.in_ok-part.ensures.behind
    c.place_at-place.result c.place_at-place.ensures.below (c.place_at-place.ensures.cost ∙ ap (λ (v : Point). v.cost) here))
