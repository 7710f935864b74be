use Rattle.std.proofs.Common.{◌+◌, ◌≤◌, List, [], ◌∷◌, length, sum_by, sym, ap, ◌∙◌, subst, arith}
use Rattle.hull.specs.declared.point.Point.{Point}
use Rattle.hull.specs.Curves.{Among}
use Rattle.sum_walk.specs.Sums.{sums_of_each}
use Rattle.curve_parts.specs.Parts.{IsPassedOver, StandForBetween}
use Rattle.curve_parts.specs.Beyond.{LieBeyond}
use Rattle.family_points.specs.Inputs.{IsAt, vertex_count}
use Rattle.family_points.specs.Separation.{depot_point, depot_points}
use Rattle.family_points.proofs.Public.{bases_long}
use Rattle.family_bases.specs.Joining.{HaveWidthOf, vertices_of}
use Rattle.family_bases.proofs.Public.{depot_ranges, depot_widths}
use Rattle.family_parts.proofs.Grown.{grows_by_none, grows_by_sums, joined_among, widths_joined}
use Rattle.family_parts.proofs.Sums.{standing, standing_beyond}
use Rattle.family_parts.proofs.joining.grow_with.Goals as goal

pub low_if_passed-requires-clause-ranges : goal.low_if_passed-requires-clause-ranges
low_if_passed-requires-clause-ranges g c = c.vertices_of-vertices.ensures.ranges

pub returns-in-Some-clause-part : goal.returns-in-Some-clause-part
returns-in-Some-clause-part g c =
    let x = c.args.sources.now.family.now in
    let d = c.args.depot.now in
    let low = c.args.low in
    let high = c.args.high in
    let part : List Point = vertices_of c.args.part.now in
    let points : List Point = depot_points g.S.Score.ends x d in
    let passed : (w : Point) → Among w points → IsPassedOver low high part w =
    subst (λ (l : List Point). (w : Point) → Among w points → IsPassedOver low high l w) c.vertices_of-vertices.ensures.vertices c.in-Some.ensures.passed in
    let after = c.min.result in
    let less = c.min.ensures in
    grows_by_none low high points part c.args.beyond.now after (omega (arith, less)) passed (λ w m. (let l = c.in-Some.ensures.least w m in omega (arith, l, less)))

pub join_parts-requires-clause-some : goal.join_parts-requires-clause-some
join_parts-requires-clause-some g c =
    omega (
      arith,
      ap length c.as_slice-parts.ensures.value,
      c.in_ok-made.ensures.work,
      bases_long c.args.sources.now.family.now c.args.sources.now.bases.items c.requires.sources.bases,
      c.invariant.ensures.valid.valid.frame.fewest_sites,
    )

pub join_parts-requires-clause-few_parts : goal.join_parts-requires-clause-few_parts
join_parts-requires-clause-few_parts g c =
    omega (
      arith,
      ap length c.as_slice-parts.ensures.value,
      c.in_ok-made.ensures.work,
      bases_long c.args.sources.now.family.now c.args.sources.now.bases.items c.requires.sources.bases,
      c.invariant.ensures.valid.valid.frame.most_sites,
    )

pub join_parts-requires-clause-ranges : goal.join_parts-requires-clause-ranges
join_parts-requires-clause-ranges g c = λ v m.
    let x = c.args.sources.now.family.now in
    let d = c.args.depot.now in
    let ends = g.S.Score.ends in
    let points : List Point = depot_points ends x d in
    let stands : StandForBetween c.args.low c.args.high points (sums_of_each (c.depot_point-first.result ∷ []) c.as_slice-parts.result.now) =
    standing c.args.low c.args.high points (depot_point x d) c.depot_point-first.result c.put_parts.new.work.parts.items c.as_slice-parts.result.now
    (c.depot_point-first.ensures.point ∙ ap (depot_point x) (c.in_ok-to_vec.ensures.items_if_clones_equal (λ x y e. e))) c.as_slice-parts.ensures.value c.in_ok-made.ensures.stands in
    depot_ranges x c.invariant.ensures.valid ends g.met.S.Score.leaves_room d c.requires.depot v (stands.among v m)

pub join_parts-requires-clause-width : goal.join_parts-requires-clause-width
join_parts-requires-clause-width g c = λ v w m n.
    let x = c.args.sources.now.family.now in
    let d = c.args.depot.now in
    let ends = g.S.Score.ends in
    let points : List Point = depot_points ends x d in
    let stands : StandForBetween c.args.low c.args.high points (sums_of_each (c.depot_point-first.result ∷ []) c.as_slice-parts.result.now) =
    standing c.args.low c.args.high points (depot_point x d) c.depot_point-first.result c.put_parts.new.work.parts.items c.as_slice-parts.result.now
    (c.depot_point-first.ensures.point ∙ ap (depot_point x) (c.in_ok-to_vec.ensures.items_if_clones_equal (λ x y e. e))) c.as_slice-parts.ensures.value c.in_ok-made.ensures.stands in
    c.requires.widths v m ∙ sym (depot_widths x c.invariant.ensures.valid ends g.met.S.Score.leaves_room d c.requires.depot w (stands.among w n))

pub returns-clause-part : goal.returns-clause-part
returns-clause-part g c =
    let x = c.args.sources.now.family.now in
    let d = c.args.depot.now in
    let low = c.args.low in
    let high = c.args.high in
    let points : List Point = depot_points g.S.Score.ends x d in
    let first : Point = c.depot_point-first.result in
    let parts : List (List Point) = c.as_slice-parts.result.now in
    let stands : StandForBetween low high points (sums_of_each (first ∷ []) parts) =
    standing low high points (depot_point x d) first c.put_parts.new.work.parts.items parts
    (c.depot_point-first.ensures.point ∙ ap (depot_point x) (c.in_ok-to_vec.ensures.items_if_clones_equal (λ x y e. e))) c.as_slice-parts.ensures.value c.in_ok-made.ensures.stands in
    let behind : LieBeyond low points (sums_of_each (first ∷ []) parts) c.in_ok-made.made =
    standing_beyond low points (depot_point x d) first c.put_parts.new.work.parts.items parts c.in_ok-made.made
    (c.depot_point-first.ensures.point ∙ ap (depot_point x) (c.in_ok-to_vec.ensures.items_if_clones_equal (λ x y e. e))) c.as_slice-parts.ensures.value c.in_ok-made.ensures.beyond in
    let old = c.args.beyond.now in
    let one = c.min-2.ensures in
    let two = c.min-3.ensures in
    grows_by_sums low high first parts points (vertices_of c.args.part.now) (vertices_of c.join_parts.new.part) old c.in_ok-made.made c.in_ok-behind.behind c.min-3.result
    (omega (arith, one, two)) (omega (arith, one, two)) (omega (arith, one, two)) c.in_ok-behind.ensures.joins stands behind c.in_ok-behind.ensures.beyond

pub returns-clause-widths : goal.returns-clause-widths
returns-clause-widths g c =
    let x = c.args.sources.now.family.now in
    let d = c.args.depot.now in
    let low = c.args.low in
    let high = c.args.high in
    let ends = g.S.Score.ends in
    let points : List Point = depot_points ends x d in
    let first : Point = c.depot_point-first.result in
    let parts : List (List Point) = c.as_slice-parts.result.now in
    let stands : StandForBetween low high points (sums_of_each (first ∷ []) parts) =
    standing low high points (depot_point x d) first c.put_parts.new.work.parts.items parts
    (c.depot_point-first.ensures.point ∙ ap (depot_point x) (c.in_ok-to_vec.ensures.items_if_clones_equal (λ x y e. e))) c.as_slice-parts.ensures.value c.in_ok-made.ensures.stands in
    widths_joined x (vertices_of c.args.part.now) points (vertices_of c.join_parts.new.part) c.requires.widths (depot_widths x c.invariant.ensures.valid ends g.met.S.Score.leaves_room d c.requires.depot)
    (joined_among low high first parts points (vertices_of c.args.part.now) (vertices_of c.join_parts.new.part) c.in_ok-behind.ensures.joins stands)

pub low_if_passed-requires-clause-sources : goal.low_if_passed-requires-clause-sources
low_if_passed-requires-clause-sources g c = c.requires.sources

pub returns-in-Some-clause-few : goal.returns-in-Some-clause-few
returns-in-Some-clause-few g c = omega arith

pub put_parts-requires-clause-sources : goal.put_parts-requires-clause-sources
put_parts-requires-clause-sources g c = c.requires.sources

pub put_parts-requires-clause-room : goal.put_parts-requires-clause-room
put_parts-requires-clause-room g c = omega (arith, c.requires.room)

pub join_parts-requires-clause-few : goal.join_parts-requires-clause-few
join_parts-requires-clause-few g c =
    let most : 1 + sum_by length c.as_slice-parts.result.now ≤ vertex_count c.args.sources.now.family.now =
    subst (λ (ls : List (List Point)). 1 + sum_by length ls ≤ vertex_count c.args.sources.now.family.now) (sym c.as_slice-parts.ensures.value) c.in_ok-made.ensures.few in
    omega (arith, most, c.requires.room)

pub returns-clause-few : goal.returns-clause-few
returns-clause-few g c =
    let most : 1 + sum_by length c.as_slice-parts.result.now ≤ vertex_count c.args.sources.now.family.now =
    subst (λ (ls : List (List Point)). 1 + sum_by length ls ≤ vertex_count c.args.sources.now.family.now) (sym c.as_slice-parts.ensures.value) c.in_ok-made.ensures.few in
    omega (arith, most, c.in_ok-behind.ensures.few)

pub returns-clause-work : goal.returns-clause-work
returns-clause-work g c = c.in_ok-made.ensures.work

pub low_if_passed-requires-clause-depot : goal.low_if_passed-requires-clause-depot
low_if_passed-requires-clause-depot g c = c.requires.depot

pub low_if_passed-requires-clause-tables : goal.low_if_passed-requires-clause-tables
low_if_passed-requires-clause-tables g c = c.requires.tables

pub low_if_passed-requires-clause-low : goal.low_if_passed-requires-clause-low
low_if_passed-requires-clause-low g c = c.requires.low

pub low_if_passed-requires-clause-high : goal.low_if_passed-requires-clause-high
low_if_passed-requires-clause-high g c = c.requires.high

pub put_parts-requires-clause-depot : goal.put_parts-requires-clause-depot
put_parts-requires-clause-depot g c = c.requires.depot

pub put_parts-requires-clause-tables : goal.put_parts-requires-clause-tables
put_parts-requires-clause-tables g c = c.requires.tables

pub put_parts-requires-clause-low : goal.put_parts-requires-clause-low
put_parts-requires-clause-low g c = c.requires.low

pub put_parts-requires-clause-high : goal.put_parts-requires-clause-high
put_parts-requires-clause-high g c = c.requires.high

pub put_parts-requires-clause-window : goal.put_parts-requires-clause-window
put_parts-requires-clause-window g c = c.requires.window

pub put_parts-requires-clause-work : goal.put_parts-requires-clause-work
put_parts-requires-clause-work g c = c.requires.work

pub join_parts-requires-clause-low : goal.join_parts-requires-clause-low
join_parts-requires-clause-low g c = c.requires.low

pub join_parts-requires-clause-high : goal.join_parts-requires-clause-high
join_parts-requires-clause-high g c = c.requires.high

pub join_parts-requires-clause-window : goal.join_parts-requires-clause-window
join_parts-requires-clause-window g c = c.requires.window

pub depot_point-first-requires : goal.depot_point-first-requires
depot_point-first-requires g c = subst (IsAt c.args.sources.now.family.now 0) (sym (c.in_ok-to_vec.ensures.items_if_clones_equal (λ x y e. e))) c.requires.depot

pub join_parts-requires-clause-first : goal.join_parts-requires-clause-first
join_parts-requires-clause-first g c = c.depot_point-first.ensures.range

pub returns-in-Some-clause-widths : goal.returns-in-Some-clause-widths
returns-in-Some-clause-widths g c = c.requires.widths

pub returns-in-Some-clause-work : goal.returns-in-Some-clause-work
returns-in-Some-clause-work g c = c.requires.work

pub join_parts-requires-clause-widths : goal.join_parts-requires-clause-widths
join_parts-requires-clause-widths g c = λ v w m n.
    let x = c.args.sources.now.family.now in
    let d = c.args.depot.now in
    let ends = g.S.Score.ends in
    let points : List Point = depot_points ends x d in
    let stands : StandForBetween c.args.low c.args.high points (sums_of_each (c.depot_point-first.result ∷ []) c.as_slice-parts.result.now) =
    standing c.args.low c.args.high points (depot_point x d) c.depot_point-first.result c.put_parts.new.work.parts.items c.as_slice-parts.result.now
    (c.depot_point-first.ensures.point ∙ ap (depot_point x) (c.in_ok-to_vec.ensures.items_if_clones_equal (λ x y e. e))) c.as_slice-parts.ensures.value c.in_ok-made.ensures.stands in
    let widths : HaveWidthOf x points = depot_widths x c.invariant.ensures.valid ends g.met.S.Score.leaves_room d c.requires.depot in
    widths v (stands.among v m) ∙ sym (widths w (stands.among w n))
