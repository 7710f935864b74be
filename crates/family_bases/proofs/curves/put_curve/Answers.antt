use Rattle.std.proofs.Common.{length, ap, arith}
use Rattle.std.proofs.lemmas.List.{length-map}
use Rattle.hull.proofs.Public.{curve_made}
use Rattle.family_points.specs.declared.order.ShopVector.{ShopVector}
use Rattle.family_points.specs.Inputs.{shop_vectors}
use Rattle.family_points.proofs.Public.{order_count, ordered_stands, some_vectors, turned_curve}
use Rattle.family_rows.proofs.Public.{rows_taken}
use Rattle.family_bases.proofs.curves.put_curve.Goals as goal

pub put_points-requires-clause-rows : goal.put_points-requires-clause-rows
put_points-requires-clause-rows g c =
    let here = c.args.here.now in
    let shops = here.base.now.shops.items in
    rows_taken (λ r. r.items) here c.as_slice.result.now c.put_rows.new.rows.items c.len-count.result (length (shop_vectors here.family.now here.site.0))
    (omega (arith, c.len-count.ensures, here.base.now.shops.ok.0, length-map shops (λ (s : ShopVector). s.stocks), ap length c.requires.here.base.stocks)) c.as_slice.ensures.value
    c.in_ok-put_rows.ensures.rows

pub put_points-requires-clause-some : goal.put_points-requires-clause-some
put_points-requires-clause-some g c =
    let here = c.args.here.now in
    let x = here.family.now in
    omega (
      arith,
      some_vectors x c.requires.here.valid here.site.0 c.requires.here.site.1,
      order_count x here.site.0 here.base.now.order.items c.requires.here.base.order g.S.Score.ends here.depot.now c.requires.here.valid g.met.S.Score.leaves_room c.requires.here.depot c.requires.here.site,
    )

pub put_points-requires-clause-room : goal.put_points-requires-clause-room
put_points-requires-clause-room g c =
    let here = c.args.here.now in
    let x = here.family.now in
    omega (
      arith,
      c.requires.room,
      order_count x here.site.0 here.base.now.order.items c.requires.here.base.order g.S.Score.ends here.depot.now c.requires.here.valid g.met.S.Score.leaves_room c.requires.here.depot c.requires.here.site,
    )

pub returns-clause-curve : goal.returns-clause-curve
returns-clause-curve g c =
    let here = c.args.here.now in
    let x = here.family.now in
    let chain = c.put_points.new.chain in
    turned_curve x c.requires.here.valid g.S.Score.ends g.met.S.Score.leaves_room here.depot.now c.requires.here.depot here.site.0 c.requires.here.site chain
    (curve_made _ chain (ordered_stands x here.site.0 here.base.now.order.items c.requires.here.base.order g.S.Score.ends here.depot.now chain c.in_ok-put_points.ensures.stands)
    c.invariant.ensures.shape.chain)

pub returns-clause-few : goal.returns-clause-few
returns-clause-few g c =
    let here = c.args.here.now in
    let x = here.family.now in
    omega (
      arith,
      c.in_ok-put_points.ensures.few,
      order_count x here.site.0 here.base.now.order.items c.requires.here.base.order g.S.Score.ends here.depot.now c.requires.here.valid g.met.S.Score.leaves_room c.requires.here.depot c.requires.here.site,
    )

pub put_rows-requires-clause-here : goal.put_rows-requires-clause-here
put_rows-requires-clause-here g c = c.requires.here

pub put_rows-requires-clause-numbers : goal.put_rows-requires-clause-numbers
put_rows-requires-clause-numbers g c = c.requires.numbers

pub put_rows-requires-clause-tables : goal.put_rows-requires-clause-tables
put_rows-requires-clause-tables g c = c.requires.tables

pub put_points-requires-clause-here : goal.put_points-requires-clause-here
put_points-requires-clause-here g c = c.requires.here
