use Rattle.std.proofs.Common.{◌≡◌, ◌+◌, ◌≤◌, List, [], Option, ◌++◌, length, refl, sym, ap, ◌∙◌, subst, arith}
use Rattle.family_points.specs.Inputs.{vertex_count}
use Rattle.hull.specs.declared.point.Point.{Point}
use Rattle.hull.specs.Curves.{Among, InRange, IsCurve, StandFor}
use Rattle.hull.proofs.Public.{stand_for}
use Rattle.family_bases.specs.Joining.{HaveWidthOf, vertices_of}
use Rattle.family_points.specs.Separation.{depot_points}
use Rattle.family_bases.proofs.Public.{depot_ranges, depot_widths}
use Rattle.family_curve.proofs.Grown.{curve_stays, none_of, widths_grow}
use Rattle.family_curve.proofs.Under.{curve_suffices}
use Rattle.family_curve.proofs.joining.with_depot.Goals as goal

pub of-requires-clause-ranges : goal.of-requires-clause-ranges
of-requires-clause-ranges g c =
    let x = c.args.sources.now.family.now in
    let valid = c.invariant.ensures.valid in
    let d = c.args.first.now.stocks in
    let ends = g.S.Score.ends in
    let room = g.met.S.Score.leaves_room in
    λ v m. depot_ranges x valid ends room d c.requires.first.at v (c.in_ok-path.ensures.among v m)

pub of-requires-clause-widths : goal.of-requires-clause-widths
of-requires-clause-widths g c =
    let x = c.args.sources.now.family.now in
    let valid = c.invariant.ensures.valid in
    let d = c.args.first.now.stocks in
    let ends = g.S.Score.ends in
    let room = g.met.S.Score.leaves_room in
    λ v w m n. depot_widths x valid ends room d c.requires.first.at v (c.in_ok-path.ensures.among v m) ∙ sym (depot_widths x valid ends room d c.requires.first.at w (c.in_ok-path.ensures.among w n))

pub returns-in_default-clause-curve : goal.returns-in_default-clause-curve
returns-in_default-clause-curve g c =
    let x = c.args.sources.now.family.now in
    let valid = c.invariant.ensures.valid in
    let d = c.args.first.now.stocks in
    let ends = g.S.Score.ends in
    let room = g.met.S.Score.leaves_room in
    let points : List Point = depot_points ends x d in
    subst (λ (o : Option (List Point)). IsCurve (vertices_of o ++ points) c.in_ok-curve.curve) (sym c.in_default.is)
    (stand_for points c.in_ok-path.path.items c.in_ok-curve.curve c.in_ok-path.ensures.stands c.in_ok-curve.ensures.curve)

pub returns-in_default-clause-widths : goal.returns-in_default-clause-widths
returns-in_default-clause-widths g c =
    let x = c.args.sources.now.family.now in
    let valid = c.invariant.ensures.valid in
    let d = c.args.first.now.stocks in
    let ends = g.S.Score.ends in
    let room = g.met.S.Score.leaves_room in
    λ v m. depot_widths x valid ends room d c.requires.first.at v (c.in_ok-path.ensures.among v (c.in_ok-curve.ensures.curve.among v m))

pub depot_path-requires-2-clause-ranges : goal.depot_path-requires-2-clause-ranges
depot_path-requires-2-clause-ranges g c =
    subst (λ (l : List Point). (v : Point) → Among v l → InRange v) (sym c.vertices-below.ensures.vertices) c.vertices-below.ensures.shape.ranges

pub add_points-requires-clause-ranges : goal.add_points-requires-clause-ranges
add_points-requires-clause-ranges g c =
    let x = c.args.sources.now.family.now in
    let valid = c.invariant.ensures.valid in
    let d = c.args.first.now.stocks in
    let ends = g.S.Score.ends in
    let room = g.met.S.Score.leaves_room in
    λ v m. depot_ranges x valid ends room d c.requires.first.at v (c.in_ok-path-2.ensures.among v m)

pub add_points-requires-clause-widths : goal.add_points-requires-clause-widths
add_points-requires-clause-widths g c =
    let x = c.args.sources.now.family.now in
    let valid = c.invariant.ensures.valid in
    let d = c.args.first.now.stocks in
    let ends = g.S.Score.ends in
    let room = g.met.S.Score.leaves_room in
    let before : HaveWidthOf x c.in-Some.curve = subst (λ (o : Option (List Point)). HaveWidthOf x (vertices_of o)) c.in-Some.is c.requires.widths in
    λ v w m n. before v m ∙ sym (depot_widths x valid ends room d c.requires.first.at w (c.in_ok-path-2.ensures.among w n))

pub returns-then-is_empty-clause-curve : goal.returns-then-is_empty-clause-curve
returns-then-is_empty-clause-curve g c =
    let x = c.args.sources.now.family.now in
    let valid = c.invariant.ensures.valid in
    let d = c.args.first.now.stocks in
    let ends = g.S.Score.ends in
    let room = g.met.S.Score.leaves_room in
    let curve : List Point = c.in-Some.curve in
    let points : List Point = depot_points ends x d in
    let stands : StandFor (curve ++ points) (curve ++ c.in_ok-path-2.path.items) =
    subst (λ (l : List Point). StandFor (l ++ points) (l ++ c.in_ok-path-2.path.items)) c.vertices-below.ensures.vertices c.in_ok-path-2.ensures.stands in
    let none : c.in_ok-path-2.path.items ≡ [] = none_of c.in_ok-path-2.path.items c.in_ok-path-2.path.len c.is_empty-is_empty.result c.in_ok-path-2.path.ok.0 c.is_empty-is_empty.ensures c.if-is_empty.true in
    subst (λ (o : Option (List Point)). IsCurve (vertices_of o ++ points) curve) (sym c.in-Some.is) (curve_stays curve points c.in_ok-path-2.path.items c.vertices-below.ensures.shape.chain none stands)

pub returns-clause-curve : goal.returns-clause-curve
returns-clause-curve g c =
    let x = c.args.sources.now.family.now in
    let valid = c.invariant.ensures.valid in
    let d = c.args.first.now.stocks in
    let ends = g.S.Score.ends in
    let room = g.met.S.Score.leaves_room in
    let curve : List Point = c.in-Some.curve in
    let points : List Point = depot_points ends x d in
    let stands : StandFor (curve ++ points) (curve ++ c.in_ok-path-2.path.items) =
    subst (λ (l : List Point). StandFor (l ++ points) (l ++ c.in_ok-path-2.path.items)) c.vertices-below.ensures.vertices c.in_ok-path-2.ensures.stands in
    subst (λ (o : Option (List Point)). IsCurve (vertices_of o ++ points) c.add_points.new.self) (sym c.in-Some.is)
    (stand_for (curve ++ points) (curve ++ c.in_ok-path-2.path.items) c.add_points.new.self stands c.in_ok-add_points.ensures.ok)

pub returns-then-is_empty-clause-widths : goal.returns-then-is_empty-clause-widths
returns-then-is_empty-clause-widths g c = subst (λ (o : Option (List Point)). HaveWidthOf c.args.sources.now.family.now (vertices_of o)) c.in-Some.is c.requires.widths

pub returns-clause-widths : goal.returns-clause-widths
returns-clause-widths g c =
    let x = c.args.sources.now.family.now in
    let valid = c.invariant.ensures.valid in
    let d = c.args.first.now.stocks in
    let ends = g.S.Score.ends in
    let room = g.met.S.Score.leaves_room in
    let before : HaveWidthOf x c.in-Some.curve = subst (λ (o : Option (List Point)). HaveWidthOf x (vertices_of o)) c.in-Some.is c.requires.widths in
    widths_grow x c.in-Some.curve c.in_ok-path-2.path.items c.add_points.new.self before
    (λ v m. depot_widths x valid ends room d c.requires.first.at v (c.in_ok-path-2.ensures.among v m)) c.in_ok-add_points.ensures.ok

pub of-requires-clause-some : goal.of-requires-clause-some
of-requires-clause-some g c = c.in_ok-path.ensures.some refl

pub of-requires-clause-few : goal.of-requires-clause-few
of-requires-clause-few g c = omega (arith, c.in_ok-path.ensures.few, c.requires.room)

pub depot_path-requires-clause-sources : goal.depot_path-requires-clause-sources
depot_path-requires-clause-sources g c = c.requires.sources

pub depot_path-requires-clause-first : goal.depot_path-requires-clause-first
depot_path-requires-clause-first g c = c.requires.first

pub depot_path-requires-clause-tables : goal.depot_path-requires-clause-tables
depot_path-requires-clause-tables g c = c.requires.tables

pub depot_path-requires-clause-room : goal.depot_path-requires-clause-room
depot_path-requires-clause-room g c = omega (arith, c.requires.room)

pub depot_path-requires-clause-ranges : goal.depot_path-requires-clause-ranges
depot_path-requires-clause-ranges g c = λ v m. absurd m

pub depot_path-requires-clause-work : goal.depot_path-requires-clause-work
depot_path-requires-clause-work g c = c.requires.work.exact

pub depot_path-requires-2-clause-sources : goal.depot_path-requires-2-clause-sources
depot_path-requires-2-clause-sources g c = c.requires.sources

pub depot_path-requires-2-clause-first : goal.depot_path-requires-2-clause-first
depot_path-requires-2-clause-first g c = c.requires.first

pub depot_path-requires-2-clause-tables : goal.depot_path-requires-2-clause-tables
depot_path-requires-2-clause-tables g c = c.requires.tables

pub depot_path-requires-2-clause-room : goal.depot_path-requires-2-clause-room
depot_path-requires-2-clause-room g c =
    let most = vertex_count c.args.sources.now.family.now in
    subst (λ (l : List Point). length l + most ≤ 65000000) (sym c.vertices-below.ensures.vertices)
    (subst (λ (o : Option (List Point)). length (vertices_of o) + most ≤ 65000000) c.in-Some.is c.requires.room)

pub depot_path-requires-2-clause-work : goal.depot_path-requires-2-clause-work
depot_path-requires-2-clause-work g c = c.requires.work.exact

pub add_points-requires-clause-few : goal.add_points-requires-clause-few
add_points-requires-clause-few g c =
    let most = vertex_count c.args.sources.now.family.now in
    let room : length c.in-Some.curve + most ≤ 65000000 = subst (λ (o : Option (List Point)). length (vertices_of o) + most ≤ 65000000) c.in-Some.is c.requires.room in
    omega (arith, room, c.in_ok-path-2.ensures.few)

pub returns-in_default-clause-few : goal.returns-in_default-clause-few
returns-in_default-clause-few g c = omega (arith, c.in_ok-curve.ensures.few, c.in_ok-path.ensures.few)

pub returns-in_default-clause-work : goal.returns-in_default-clause-work
returns-in_default-clause-work g c = record { exact = c.in_ok-path.ensures.work; lows = c.requires.work.lows }

pub returns-then-is_empty-clause-few : goal.returns-then-is_empty-clause-few
returns-then-is_empty-clause-few g c =
    let most = vertex_count c.args.sources.now.family.now in
    subst (λ (o : Option (List Point)). length c.in-Some.curve ≤ length (vertices_of o) + most) (sym c.in-Some.is) (omega arith)

pub returns-then-is_empty-clause-work : goal.returns-then-is_empty-clause-work
returns-then-is_empty-clause-work g c = record { exact = c.in_ok-path-2.ensures.work; lows = ap length c.has_tried.ensures ∙ c.in_ok-are_passed.ensures.chains }

pub returns-clause-few : goal.returns-clause-few
returns-clause-few g c =
    let most = vertex_count c.args.sources.now.family.now in
    subst (λ (o : Option (List Point)). length c.add_points.new.self ≤ length (vertices_of o) + most) (sym c.in-Some.is)
    (omega (arith, c.in_ok-add_points.ensures.few, c.in_ok-path-2.ensures.few))

pub returns-clause-work : goal.returns-clause-work
returns-clause-work g c = record { exact = c.in_ok-path-2.ensures.work; lows = ap length c.has_tried.ensures ∙ c.in_ok-are_passed.ensures.chains }

pub are_passed-requires-clause-ranges : goal.are_passed-requires-clause-ranges
are_passed-requires-clause-ranges g c =
    subst (λ (l : List Point). (v : Point) → Among v l → InRange v) (sym c.vertices-below.ensures.vertices) c.vertices-below.ensures.shape.ranges

pub returns-then-branch-clause-curve : goal.returns-then-branch-clause-curve
returns-then-branch-clause-curve g c =
    let curve : List Point = c.in-Some.curve in
    let points : List Point = depot_points g.S.Score.ends c.args.sources.now.family.now c.args.first.now.stocks in
    let stands : StandFor (curve ++ points) curve =
    subst (λ (l : List Point). StandFor (l ++ points) l) c.vertices-below.ensures.vertices (c.in_ok-are_passed.ensures.passed c.if-branch.true) in
    subst (λ (o : Option (List Point)). IsCurve (vertices_of o ++ points) curve) (sym c.in-Some.is) (curve_suffices curve points c.vertices-below.ensures.shape.chain stands)

pub returns-then-branch-clause-widths : goal.returns-then-branch-clause-widths
returns-then-branch-clause-widths g c = subst (λ (o : Option (List Point)). HaveWidthOf c.args.sources.now.family.now (vertices_of o)) c.in-Some.is c.requires.widths

pub returns-then-branch-clause-few : goal.returns-then-branch-clause-few
returns-then-branch-clause-few g c =
    let most = vertex_count c.args.sources.now.family.now in
    subst (λ (o : Option (List Point)). length c.in-Some.curve ≤ length (vertices_of o) + most) (sym c.in-Some.is) (omega arith)

pub returns-then-branch-clause-work : goal.returns-then-branch-clause-work
returns-then-branch-clause-work g c = record { exact = c.requires.work.exact; lows = c.in_ok-are_passed.ensures.chains }

pub are_passed-requires-clause-room : goal.are_passed-requires-clause-room
are_passed-requires-clause-room g c =
    let most = vertex_count c.args.sources.now.family.now in
    subst (λ (l : List Point). length l + most ≤ 65000000) (sym c.vertices-below.ensures.vertices)
    (subst (λ (o : Option (List Point)). length (vertices_of o) + most ≤ 65000000) c.in-Some.is c.requires.room)
