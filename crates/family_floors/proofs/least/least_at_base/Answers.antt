use Rattle.family_rows.proofs.Public.{rows_taken}
use Rattle.family_points.specs.Inputs.{shop_vectors}
use Rattle.family_points.specs.declared.order.ShopVector.{ShopVector}
use Rattle.std.proofs.lemmas.List.{length-map, length-take-le}
use Rattle.std.proofs.Common.{◌≡◌, ◌≤◌, arith, length, ap, subst, sym}
use Rattle.family_points.proofs.Public.{base_least_is, order_count, some_vectors}
use Rattle.family_floors.proofs.least.least_at_base.Goals as goal

pub least_of_choices-requires-clause-some : goal.least_of_choices-requires-clause-some
least_of_choices-requires-clause-some g c =
    let here = c.args.here.now in
    let x = here.family.now in
    omega (
      arith,
      some_vectors x c.requires.here.valid here.site.0 c.requires.here.site.1,
      order_count x here.site.0 here.base.now.order.items c.requires.here.base.order g.S.Score.ends here.depot.now c.requires.here.valid g.met.S.Score.leaves_room c.requires.here.depot c.requires.here.site,
    )

pub returns-clause-least : goal.returns-clause-least
returns-clause-least g c =
    let here = c.args.here.now in
    base_least_is here.family.now c.requires.here.valid here.site.0 here.base.now.order.items c.requires.here.base.order g.S.Score.ends here.depot.now c.requires.here.site
    c.args.price.p c.args.price.q c.least_of_choices.result c.least_of_choices.ensures.least

pub put_rows-requires-clause-here : goal.put_rows-requires-clause-here
put_rows-requires-clause-here g c = c.requires.here

pub put_rows-requires-clause-numbers : goal.put_rows-requires-clause-numbers
put_rows-requires-clause-numbers g c = c.requires.numbers

pub put_rows-requires-clause-tables : goal.put_rows-requires-clause-tables
put_rows-requires-clause-tables g c = c.requires.tables

pub least_of_choices-requires-clause-here : goal.least_of_choices-requires-clause-here
least_of_choices-requires-clause-here g c = c.requires.here

pub least_of_choices-requires-clause-most_money : goal.least_of_choices-requires-clause-most_money
least_of_choices-requires-clause-most_money g c = c.requires.most_money

pub least_of_choices-requires-clause-price : goal.least_of_choices-requires-clause-price
least_of_choices-requires-clause-price g c = c.requires.price

pub returns-clause-most : goal.returns-clause-most
returns-clause-most g c = c.least_of_choices.ensures.most

pub least_of_choices-requires-clause-rows : goal.least_of_choices-requires-clause-rows
least_of_choices-requires-clause-rows g c =
    let here = c.args.here.now in
    let shops = here.base.now.shops.items in
    rows_taken (λ r. r.items) here c.as_slice.result.now c.put_rows.new.rows.items c.len-count.result (length (shop_vectors here.family.now here.site.0))
    (omega (arith, c.len-count.ensures, here.base.now.shops.ok.0, length-map shops (λ (s : ShopVector). s.stocks), ap length c.requires.here.base.stocks)) c.as_slice.ensures.value
    c.in_ok-put_rows.ensures.rows

pub slice_bounds-least_of_choices-end : goal.slice_bounds-least_of_choices-end
slice_bounds-least_of_choices-end g c =
    let here = c.args.here.now in
    let shops = here.base.now.shops.items in
    let count : c.len-count.result ≡ length (shop_vectors here.family.now here.site.0) = omega (arith, c.len-count.ensures, here.base.now.shops.ok.0, length-map shops (λ (s : ShopVector). s.stocks), ap length c.requires.here.base.stocks) in
    let long : length (shop_vectors here.family.now here.site.0) ≤ length c.as_slice.result.now =
    subst (λ k. length (shop_vectors here.family.now here.site.0) ≤ k) (sym (ap length c.as_slice.ensures.value)) c.in_ok-put_rows.ensures.long in
    sym (length-take-le c.len-count.result c.as_slice.result.now (subst (λ k. k ≤ length c.as_slice.result.now) (sym count) long))
