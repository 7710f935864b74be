use Rattle.std.proofs.Common.{◌≡◌, ℕ, ◌<◌, List, [], drop, get_or, length, sym, ap, ap₂, ◌∙◌, subst, arith, OnOk}
use Rattle.std.proofs.lemmas.List.{length-map}
use Rattle.family_numbers.specs.Numbers.{FamilyNumbers, shop_part}
use Rattle.family_points.specs.declared.order.ShopVector.{ShopVector}
use Rattle.family_points.specs.Inputs.{AreShopsAt, shop_vectors}
use Rattle.family_points.specs.Choices.{IsShopVector}
use Rattle.family_rows.specs.Spots.{IsRow}
use Rattle.family_rows.proofs.Rows.{part_read}
use Rattle.family_points.proofs.Public.{stock_read}
use Rattle.family_rows.proofs.base.put_row.Goals as goal

pub put_backorders-requires-clause-shops : goal.put_backorders-requires-clause-shops
put_backorders-requires-clause-shops c =
    let x = c.args.here.now.family.now in
    let j = c.args.here.now.site.0 in
    let shops = c.index.result.now in
    let items = c.args.here.now.base.now.shops.items in
    let inside : c.args.n < length items = omega (arith, c.requires.place, length-map items (λ (v : ShopVector). v.stocks), ap length c.requires.here.base.stocks) in
    let vector : IsShopVector x j shops = subst (IsShopVector x j) (sym c.index.ensures) (c.requires.here.base.are_vectors c.args.n shops inside) in
    subst (AreShopsAt x j) (sym c.as_slice-stocks.ensures) vector.within

pub put_backorders-requires-clause-part : goal.put_backorders-requires-clause-part
put_backorders-requires-clause-part c =
    let x = c.args.here.now.family.now in
    let j = c.args.here.now.site.0 in
    let d = drop 1 c.args.here.now.depot.now in
    let shops = c.index.result.now in
    let items = c.args.here.now.base.now.shops.items in
    let all : List (List ℕ) = shop_vectors x j in
    let n = c.args.n in
    let inside : n < length items = omega (arith, c.requires.place, length-map items (λ (v : ShopVector). v.stocks), ap length c.requires.here.base.stocks) in
    let stocks : c.as_slice-stocks.result.now ≡ get_or all n [] =
    c.as_slice-stocks.ensures ∙ stock_read items n shops shops all c.requires.here.base.stocks inside c.index.ensures in
    part_read x d j n c.args.parts.now c.index-parts-n.result c.requires.parts c.requires.place c.index-parts-n.is
    ∙ ap₂ (λ (m : FamilyNumbers 48) (s : List ℕ). shop_part 48 m j d s) (sym c.requires.numbers) (sym stocks)

pub returns : goal.returns
returns c =
    let x = c.args.here.now.family.now in
    let j = c.args.here.now.site.0 in
    let shops = c.index.result.now in
    let items = c.args.here.now.base.now.shops.items in
    let all : List (List ℕ) = shop_vectors x j in
    let n = c.args.n in
    let inside : n < length items = omega (arith, c.requires.place, length-map items (λ (v : ShopVector). v.stocks), ap length c.requires.here.base.stocks) in
    let stocks : c.as_slice-stocks.result.now ≡ get_or all n [] =
    c.as_slice-stocks.ensures ∙ stock_read items n shops shops all c.requires.here.base.stocks inside c.index.ensures in
    subst (λ (v : List ℕ). OnOk c.put_backorders.result (IsRow x c.args.here.now.depot.now j v c.put_backorders.new.found.items)) stocks c.put_backorders.ensures
