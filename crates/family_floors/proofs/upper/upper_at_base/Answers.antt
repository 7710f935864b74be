use Rattle.family_rows.proofs.Public.{rows_taken}
use Rattle.family_points.specs.Inputs.{shop_vectors}
use Rattle.family_points.specs.declared.order.ShopVector.{ShopVector}
use Rattle.std.proofs.lemmas.List.{length-map, length-take-le}
use Rattle.std.proofs.Common.{◌≡◌, ◌<◌, ◌≤◌, ◌∙◌, length, sym, ap, subst, arith}
use Rattle.hull.specs.declared.point.Point.{Point}
use Rattle.hull.specs.Curves.{InRange}
use Rattle.family_points.specs.Choices.{IsChoice}
use Rattle.family_rows.specs.Spots.{spot_point}
use Rattle.family_points.proofs.Public.{choice_range, order_count, some_vectors}
use Rattle.family_floors.proofs.Uppers.{upper_of_choice}
use Rattle.family_floors.proofs.upper.upper_at_base.Goals as goal

pub index-first-requires : goal.index-first-requires
index-first-requires g c =
    let here = c.args.here.now in
    let x = here.family.now in
    omega (
      arith,
      some_vectors x c.requires.here.valid here.site.0 c.requires.here.site.1,
      order_count x here.site.0 here.base.now.order.items c.requires.here.base.order g.S.Score.ends here.depot.now c.requires.here.valid g.met.S.Score.leaves_room c.requires.here.depot c.requires.here.site,
      here.base.now.order.ok.0,
    )

pub spot_at-spot-requires-clause-choice : goal.spot_at-spot-requires-clause-choice
spot_at-spot-requires-clause-choice g c =
    let here = c.args.here.now in
    let x = here.family.now in
    let some : 0 < length here.base.now.order.items = omega (
      arith,
      some_vectors x c.requires.here.valid here.site.0 c.requires.here.site.1,
      order_count x here.site.0 here.base.now.order.items c.requires.here.base.order g.S.Score.ends here.depot.now c.requires.here.valid g.met.S.Score.leaves_room c.requires.here.depot c.requires.here.site,
    ) in
    subst (IsChoice x here.site.0) (sym c.index-first.ensures) (c.requires.here.base.order.choices 0 c.index-first.result.now some)

pub returns-clause-upper : goal.returns-clause-upper
returns-clause-upper g c =
    let here = c.args.here.now in
    let x = here.family.now in
    let some : 0 < length here.base.now.order.items = omega (
      arith,
      some_vectors x c.requires.here.valid here.site.0 c.requires.here.site.1,
      order_count x here.site.0 here.base.now.order.items c.requires.here.base.order g.S.Score.ends here.depot.now c.requires.here.valid g.met.S.Score.leaves_room c.requires.here.depot c.requires.here.site,
    ) in
    upper_of_choice x c.requires.here.valid here.site.0 here.base.now.order.items c.requires.here.base.order g.S.Score.ends here.depot.now c.requires.here.site
    c.index-first.result.now c.hi.result some c.index-first.ensures (c.hi.ensures ∙ ap (λ (p : Point). p.hi) c.spot_at-spot.ensures)

pub returns-clause-most : goal.returns-clause-most
returns-clause-most g c =
    let here = c.args.here.now in
    let x = here.family.now in
    let some : 0 < length here.base.now.order.items = omega (
      arith,
      some_vectors x c.requires.here.valid here.site.0 c.requires.here.site.1,
      order_count x here.site.0 here.base.now.order.items c.requires.here.base.order g.S.Score.ends here.depot.now c.requires.here.valid g.met.S.Score.leaves_room c.requires.here.depot c.requires.here.site,
    ) in
    let choice = subst (IsChoice x here.site.0) (sym c.index-first.ensures) (c.requires.here.base.order.choices 0 c.index-first.result.now some) in
    let r : InRange (spot_point c.spot_at-spot.result) = subst InRange (sym c.spot_at-spot.ensures)
    (choice_range x c.requires.here.valid here.site.0 c.index-first.result.now choice c.requires.here.site g.S.Score.ends g.met.S.Score.leaves_room here.depot.now c.requires.here.depot) in
    let h = r.hi in omega (arith, c.hi.ensures, h)

pub put_rows-requires-clause-here : goal.put_rows-requires-clause-here
put_rows-requires-clause-here g c = c.requires.here

pub put_rows-requires-clause-numbers : goal.put_rows-requires-clause-numbers
put_rows-requires-clause-numbers g c = c.requires.numbers

pub put_rows-requires-clause-tables : goal.put_rows-requires-clause-tables
put_rows-requires-clause-tables g c = c.requires.tables

pub spot_at-spot-requires-clause-here : goal.spot_at-spot-requires-clause-here
spot_at-spot-requires-clause-here g c = c.requires.here

pub spot_at-spot-requires-clause-rows : goal.spot_at-spot-requires-clause-rows
spot_at-spot-requires-clause-rows g c =
    let here = c.args.here.now in
    let shops = here.base.now.shops.items in
    rows_taken (λ r. r.items) here c.as_slice.result.now c.put_rows.new.rows.items c.len-count.result (length (shop_vectors here.family.now here.site.0))
    (omega (arith, c.len-count.ensures, here.base.now.shops.ok.0, length-map shops (λ (s : ShopVector). s.stocks), ap length c.requires.here.base.stocks)) c.as_slice.ensures.value
    c.in_ok-put_rows.ensures.rows

pub slice_bounds-spot_at-end : goal.slice_bounds-spot_at-end
slice_bounds-spot_at-end g c =
    let here = c.args.here.now in
    let shops = here.base.now.shops.items in
    let count : c.len-count.result ≡ length (shop_vectors here.family.now here.site.0) = omega (arith, c.len-count.ensures, here.base.now.shops.ok.0, length-map shops (λ (s : ShopVector). s.stocks), ap length c.requires.here.base.stocks) in
    let long : length (shop_vectors here.family.now here.site.0) ≤ length c.as_slice.result.now =
    subst (λ k. length (shop_vectors here.family.now here.site.0) ≤ k) (sym (ap length c.as_slice.ensures.value)) c.in_ok-put_rows.ensures.long in
    sym (length-take-le c.len-count.result c.as_slice.result.now (subst (λ k. k ≤ length c.as_slice.result.now) (sym count) long))
