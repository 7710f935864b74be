use Rattle.std.proofs.Common.{List, length, map, ap, arith}
use Rattle.std.proofs.lemmas.List.{length-map}
use Rattle.std.proofs.lemmas.Result.{IfOk-weaker}
use Rattle.hull.specs.declared.point.Point.{Point}
use Rattle.family_points.specs.declared.order.ShopVector.{ShopVector}
use Rattle.family_points.specs.Inputs.{shop_vectors}
use Rattle.family_points.specs.Choices.{choice_point}
use Rattle.family_points.proofs.Public.{order_count, some_vectors}
use Rattle.family_curve.specs.LowCurves.{IsLowRow, IsLowTo}
use Rattle.family_curve.proofs.LowCurves.{base_choices, rows_taken}
use Rattle.family_curve.proofs.low_curve.put_low_curve.Goals as goal

pub put_low_points-requires-clause-rows : goal.put_low_points-requires-clause-rows
put_low_points-requires-clause-rows g c =
    let here = c.args.here.now in
    let shops = here.base.now.shops.items in
    let x = here.family.now in
    let all = shop_vectors x here.site.0 in
    rows_taken (λ r. r.items) (IsLowRow x here.depot.now here.site.0) all c.as_slice.result.now c.put_low_rows.new.rows.items c.len-count.result (length all)
    (omega (arith, c.len-count.ensures, here.base.now.shops.ok.0, length-map shops (λ (s : ShopVector). s.stocks), ap length c.requires.here.base.stocks)) c.as_slice.ensures.value
    c.in_ok-put_low_rows.ensures.rows

pub put_low_points-requires-clause-some : goal.put_low_points-requires-clause-some
put_low_points-requires-clause-some g c =
    let here = c.args.here.now in
    let x = here.family.now in
    omega (
      arith,
      some_vectors x c.requires.here.valid here.site.0 c.requires.here.site.1,
      order_count x here.site.0 here.base.now.order.items c.requires.here.base.order g.S.Score.ends here.depot.now c.requires.here.valid g.met.S.Score.leaves_room c.requires.here.depot c.requires.here.site,
    )

pub put_low_points-requires-clause-room : goal.put_low_points-requires-clause-room
put_low_points-requires-clause-room g c =
    let here = c.args.here.now in
    let x = here.family.now in
    omega (
      arith,
      c.requires.room,
      order_count x here.site.0 here.base.now.order.items c.requires.here.base.order g.S.Score.ends here.depot.now c.requires.here.valid g.met.S.Score.leaves_room c.requires.here.depot c.requires.here.site,
    )

pub returns-clause-under : goal.returns-clause-under
returns-clause-under g c =
    let here = c.args.here.now in
    let x = here.family.now in
    let order = here.base.now.order.items in
    let points : List Point = map (choice_point g.S.Score.ends x here.depot.now here.site.0) order in
    IfOk-weaker c.put_low_points.result (IsLowTo points c.put_low_points.new.chain) _
    (λ strict low p q a b v m. low.under p q a b v (base_choices x c.requires.here.valid here.site.0 order c.requires.here.base.order g.S.Score.ends here.depot.now c.requires.here.site v m))
    c.put_low_points.ensures.low

pub returns-clause-below : goal.returns-clause-below
returns-clause-below g c =
    let here = c.args.here.now in
    let x = here.family.now in
    let order = here.base.now.order.items in
    let points : List Point = map (choice_point g.S.Score.ends x here.depot.now here.site.0) order in
    IfOk-weaker c.put_low_points.result (IsLowTo points c.put_low_points.new.chain) _
    (λ strict low i p q a b v m. low.below i p q a b v (base_choices x c.requires.here.valid here.site.0 order c.requires.here.base.order g.S.Score.ends here.depot.now c.requires.here.site v m))
    c.put_low_points.ensures.low

pub returns-clause-few : goal.returns-clause-few
returns-clause-few g c =
    let here = c.args.here.now in
    let x = here.family.now in
    let count = order_count x here.site.0 here.base.now.order.items c.requires.here.base.order g.S.Score.ends here.depot.now c.requires.here.valid g.met.S.Score.leaves_room c.requires.here.depot c.requires.here.site in
    IfOk-weaker c.put_low_points.result _ _ (λ strict few. omega (arith, few, count)) c.put_low_points.ensures.few

pub put_low_rows-requires-clause-here : goal.put_low_rows-requires-clause-here
put_low_rows-requires-clause-here g c = c.requires.here

pub put_low_rows-requires-clause-numbers : goal.put_low_rows-requires-clause-numbers
put_low_rows-requires-clause-numbers g c = c.requires.numbers

pub put_low_rows-requires-clause-tables : goal.put_low_rows-requires-clause-tables
put_low_rows-requires-clause-tables g c = c.requires.tables

pub put_low_points-requires-clause-here : goal.put_low_points-requires-clause-here
put_low_points-requires-clause-here g c = c.requires.here
