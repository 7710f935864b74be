use Rattle.std.proofs.Common.{List, [], ◌∷◌, ◌++◌, subst}
use Rattle.hull.specs.declared.point.Point.{Point}
use Rattle.hull.specs.Curves.{Among, IsCurve, StandFor}
use Rattle.hull.proofs.Public.{convex}
use Rattle.sum_walk.specs.Sums.{sums_of_each}
use Rattle.curve_parts.specs.Parts.{StandForBetween}
use Rattle.curve_parts.proofs.Between.{joined_between}
use Rattle.curve_parts.proofs.Beyond.{beyond_through, walk_known}
use Rattle.curve_parts.proofs.Shape.{cut_of_standing}
use Rattle.curve_parts.proofs.join.join_sums.Goals as goal

pub walk-requires-clause-ranges : goal.walk-requires-clause-ranges
walk-requires-clause-ranges g c = λ v m. c.vertices-below.ensures.shape.ranges v (subst (Among v) c.vertices-below.ensures.vertices m)

pub add_points-requires-clause-ranges : goal.add_points-requires-clause-ranges
add_points-requires-clause-ranges g c = λ v m. c.requires.ranges v (c.in_ok-handed.ensures.among v m)

pub add_points-requires-clause-widths : goal.add_points-requires-clause-widths
add_points-requires-clause-widths g c = λ v w m n. c.requires.widths v w m (c.in_ok-handed.ensures.among w n)

pub returns-clause-ok : goal.returns-clause-ok
returns-clause-ok g c = λ points more s t.
    let low = c.args.low in
    let high = c.args.high in
    let sums : List Point = sums_of_each (c.args.first.now ∷ []) c.args.parts.now in
    let old = c.args.curve.now in
    let handed = c.in_ok-handed.handed.items in
    let made = c.add_points.new.self in
    let walked : StandFor (old ++ sums) (old ++ handed) =
    subst (λ (l : List Point). StandFor (l ++ sums_of_each (c.args.first.now ∷ []) c.args.parts.now) (l ++ handed)) c.vertices-below.ensures.vertices c.in_ok-handed.ensures.stands in
    let curve : IsCurve (old ++ handed) made = c.in_ok-add_points.ensures.ok in
    let joined : StandForBetween low high (points ++ more) made = joined_between low high points old more sums handed made s t walked curve in
    cut_of_standing low high (points ++ more) made c.cut-beyond.new.chain c.requires.window (convex (old ++ handed) made curve) joined c.cut-beyond.ensures.cut

pub returns-clause-beyond : goal.returns-clause-beyond
returns-clause-beyond g c =
    let low = c.args.low in
    let sums : List Point = sums_of_each (c.args.first.now ∷ []) c.args.parts.now in
    let old = c.args.curve.now in
    let handed = c.in_ok-handed.handed.items in
    let made = c.add_points.new.self in
    let part = c.cut-beyond.new.chain in
    let beyond = c.cut-beyond.result in
    let walked : StandFor (old ++ sums) (old ++ handed) =
    subst (λ (l : List Point). StandFor (l ++ sums_of_each (c.args.first.now ∷ []) c.args.parts.now) (l ++ handed)) c.vertices-below.ensures.vertices c.in_ok-handed.ensures.stands in
    let curve : IsCurve (old ++ handed) made = c.in_ok-add_points.ensures.ok in
    beyond_through low (old ++ sums) made part beyond (λ v m. walked.among v (curve.among v m)) (walk_known low (old ++ sums) (old ++ handed) made beyond walked curve)
    (c.cut-beyond.ensures.beyond c.requires.window)
