use Rattle.std.proofs.Common.{◌≡◌, ◌<◌, List, [], get_or, length, map, sym, ap, ◌∙◌, subst, arith}
use Rattle.std.proofs.lemmas.Bool.{not-true}
use Rattle.std.proofs.lemmas.Slice.Zip.{AllZip-long}
use Rattle.fixed_interval.specs.Ends.{Ends}
use Rattle.hull.specs.declared.point.Point.{Point}
use Rattle.hull.specs.Curves.{IsCurve}
use Rattle.family_points.specs.declared.order.Choice.{Choice}
use Rattle.family_points.specs.Inputs.{shop_vectors}
use Rattle.family_points.proofs.Public.{order_count, some_vectors}
use Rattle.family_bases.specs.Lows.{AreLowsOf, AreUnderEach}
use Rattle.base_parts.specs.Choices.{AreKept, kept_points}
use Rattle.base_parts.proofs.Kept.{curve_without, kept_grown}
use Rattle.base_parts.proofs.choices.put_several.Goals as goal

pub put_lows-requires-clause-low : goal.put_lows-requires-clause-low
put_lows-requires-clause-low g c = record { p = c.requires.low.p; q = c.requires.low.q }

pub put_lows-requires-clause-high : goal.put_lows-requires-clause-high
put_lows-requires-clause-high g c = record { p = c.requires.high.p; q = c.requires.high.q }

pub likely_place-at-requires-clause-some : goal.likely_place-at-requires-clause-some
likely_place-at-requires-clause-some g c =
    let b = c.args.here.now in
    let x = b.family.now in
    omega (
      arith,
      some_vectors x c.requires.here.valid b.site.0 c.requires.here.site.1,
      order_count x b.site.0 b.base.now.order.items c.requires.here.base.order g.S.Score.ends b.depot.now c.requires.here.valid g.met.S.Score.leaves_room c.requires.here.depot c.requires.here.site,
    )

pub likely_place-at-requires-clause-count : goal.likely_place-at-requires-clause-count
likely_place-at-requires-clause-count g c =
    let b = c.args.here.now in
    ap length c.as_slice-bounds.ensures.value
    ∙ AllZip-long (AreUnderEach g.S.Score.ends b.family.now b.depot.now b.site.0 c.args.low c.args.high) (shop_vectors b.family.now b.site.0) c.put_lows.new.lows.items c.in_ok-put_lows.ensures

pub put_others-requires-clause-count : goal.put_others-requires-clause-count
put_others-requires-clause-count g c =
    let b = c.args.here.now in
    ap length c.as_slice-bounds.ensures.value
    ∙ AllZip-long (AreUnderEach g.S.Score.ends b.family.now b.depot.now b.site.0 c.args.low c.args.high) (shop_vectors b.family.now b.site.0) c.put_lows.new.lows.items c.in_ok-put_lows.ensures

pub put_likely-requires-clause-room : goal.put_likely-requires-clause-room
put_likely-requires-clause-room g c =
    let b = c.args.here.now in
    let x = b.family.now in
    omega (
      arith,
      c.requires.room,
      order_count x b.site.0 b.base.now.order.items c.requires.here.base.order g.S.Score.ends b.depot.now c.requires.here.valid g.met.S.Score.leaves_room c.requires.here.depot c.requires.here.site,
    )

pub put_kept-requires-clause-room : goal.put_kept-requires-clause-room
put_kept-requires-clause-room g c =
    let b = c.args.here.now in
    let x = b.family.now in
    omega (
      arith,
      c.requires.room,
      order_count x b.site.0 b.base.now.order.items c.requires.here.base.order g.S.Score.ends b.depot.now c.requires.here.valid g.met.S.Score.leaves_room c.requires.here.depot c.requires.here.site,
    )

pub put_kept-requires-clause-long : goal.put_kept-requires-clause-long
put_kept-requires-clause-long g c = omega (arith, c.in_ok-put_likely.ensures.long, c.in_ok-others.ensures.long, ap length c.as_slice.ensures.value)

pub put_kept-requires-clause-rows : goal.put_kept-requires-clause-rows
put_kept-requires-clause-rows g c = subst (λ rs. AreKept c.args.here.now (map (λ r. r.items) rs)) (sym c.as_slice.ensures.value) c.in_ok-others.ensures.rows

pub put_kept-requires-clause-kept : goal.put_kept-requires-clause-kept
put_kept-requires-clause-kept g c = λ v e. subst (λ rs. 0 < length (get_or (map (λ r. r.items) rs) v.shops [])) (sym c.as_slice.ensures.value) (c.in_ok-others.ensures.grown v.shops (c.in_ok-put_likely.ensures.kept v e))

pub returns-then-not-others-clause-few : goal.returns-then-not-others-clause-few
returns-then-not-others-clause-few g c =
    let b = c.args.here.now in
    let x = b.family.now in
    omega (
      arith,
      c.in_ok-put_likely.ensures.few,
      order_count x b.site.0 b.base.now.order.items c.requires.here.base.order g.S.Score.ends b.depot.now c.requires.here.valid g.met.S.Score.leaves_room c.requires.here.depot c.requires.here.site,
    )

pub returns-clause-few : goal.returns-clause-few
returns-clause-few g c =
    let b = c.args.here.now in
    let x = b.family.now in
    omega (
      arith,
      c.in_ok-put_kept.ensures.few,
      order_count x b.site.0 b.base.now.order.items c.requires.here.base.order g.S.Score.ends b.depot.now c.requires.here.valid g.met.S.Score.leaves_room c.requires.here.depot c.requires.here.site,
    )

pub returns-then-not-others-clause-curve : goal.returns-then-not-others-clause-curve
returns-then-not-others-clause-curve g c =
    let b = c.args.here.now in
    let ends = g.S.Score.ends in
    let order : List Choice = b.base.now.order.items in
    let rows : List (List Ends) = map (λ r. r.items) c.put_others.new.rows.items in
    let chain : List Point = c.put_likely.new.chain in
    let same : c.put_others.new.rows.items ≡ c.put_likely.new.rows.items = c.in_ok-others.ensures.same (not-true c.in_ok-others.others.more c.if-not-others.true) in
    let curve : IsCurve (kept_points ends b rows order) chain =
    subst (λ rs. IsCurve (kept_points ends b (map (λ r. r.items) rs) order) chain) (sym same) c.in_ok-put_likely.ensures.curve in
    curve_without ends b c.requires.here.valid c.requires.here.site order c.requires.here.base.order c.args.low c.args.high rows c.as_slice-bounds.result.now chain chain c.in_ok-others.others.passed
    (subst (AreLowsOf ends b c.args.low c.args.high) (sym c.as_slice-bounds.ensures.value) c.in_ok-put_lows.ensures)
    c.in_ok-others.ensures.settled curve.among curve

pub returns-clause-curve : goal.returns-clause-curve
returns-clause-curve g c =
    let b = c.args.here.now in
    let ends = g.S.Score.ends in
    let order : List Choice = b.base.now.order.items in
    let before : List (List Ends) = map (λ r. r.items) c.put_likely.new.rows.items in
    let rows : List (List Ends) = map (λ r. r.items) c.put_others.new.rows.items in
    let chain : List Point = c.put_likely.new.chain in
    let first : IsCurve (kept_points ends b before order) chain = c.in_ok-put_likely.ensures.curve in
    let made : IsCurve (kept_points ends b rows order) c.put_kept.new.chain =
    subst (λ rs. IsCurve (kept_points ends b (map (λ r. r.items) rs) order) c.put_kept.new.chain) c.as_slice.ensures.value c.in_ok-put_kept.ensures.curve in
    curve_without ends b c.requires.here.valid c.requires.here.site order c.requires.here.base.order c.args.low c.args.high rows c.as_slice-bounds.result.now chain c.put_kept.new.chain c.in_ok-others.others.passed
    (subst (AreLowsOf ends b c.args.low c.args.high) (sym c.as_slice-bounds.ensures.value) c.in_ok-put_lows.ensures)
    c.in_ok-others.ensures.settled (λ v m. kept_grown ends b before rows order c.in_ok-others.ensures.grown v (first.among v m)) made
