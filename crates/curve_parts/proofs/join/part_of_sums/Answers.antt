use Rattle.std.proofs.Common.{List, [], ◌∷◌}
use Rattle.hull.specs.declared.point.Point.{Point}
use Rattle.hull.specs.Curves.{IsCurve, StandFor}
use Rattle.hull.proofs.Public.{convex}
use Rattle.sum_walk.specs.Sums.{sums_of_each}
use Rattle.curve_parts.specs.Parts.{StandForBetween}
use Rattle.curve_parts.proofs.Between.{joined_between, self_between}
use Rattle.curve_parts.proofs.Beyond.{beyond_through, walk_known}
use Rattle.curve_parts.proofs.Shape.{cut_of_standing}
use Rattle.curve_parts.proofs.join.part_of_sums.Goals as goal

pub of-requires-clause-ranges : goal.of-requires-clause-ranges
of-requires-clause-ranges g c = λ v m. c.requires.ranges v (c.in_ok-handed.ensures.among v m)

pub of-requires-clause-widths : goal.of-requires-clause-widths
of-requires-clause-widths g c = λ v w m n. c.requires.widths v w (c.in_ok-handed.ensures.among v m) (c.in_ok-handed.ensures.among w n)

pub returns-clause-part : goal.returns-clause-part
returns-clause-part g c = λ points s.
    let low = c.args.low in
    let high = c.args.high in
    let sums : List Point = sums_of_each (c.args.first.now ∷ []) c.args.parts.now in
    let handed = c.in_ok-handed.handed.items in
    let made = c.in_ok-curve.curve in
    let walked : StandFor sums handed = c.in_ok-handed.ensures.stands in
    let curve : IsCurve handed made = c.in_ok-curve.ensures.curve in
    let joined : StandForBetween low high points made = joined_between low high [] [] points sums handed made (self_between low high []) s walked curve in
    cut_of_standing low high points made c.cut-beyond.new.chain c.requires.window (convex handed made curve) joined c.cut-beyond.ensures.cut

pub returns-clause-beyond : goal.returns-clause-beyond
returns-clause-beyond g c =
    let low = c.args.low in
    let sums : List Point = sums_of_each (c.args.first.now ∷ []) c.args.parts.now in
    let handed = c.in_ok-handed.handed.items in
    let made = c.in_ok-curve.curve in
    let part = c.cut-beyond.new.chain in
    let beyond = c.cut-beyond.result in
    let walked : StandFor sums handed = c.in_ok-handed.ensures.stands in
    let curve : IsCurve handed made = c.in_ok-curve.ensures.curve in
    beyond_through low sums made part beyond (λ v m. walked.among v (curve.among v m)) (walk_known low sums handed made beyond walked curve) (c.cut-beyond.ensures.beyond c.requires.window)
