use Rattle.std.proofs.Common.{◌≡◌, ℕ, ◌*◌, ◌<◌, ◌≤◌, ◌∙◌, List, [], drop, get_or, length, sym, ap, ap₂, subst, arith}
use Rattle.family_points.specs.Choices.{IsShopVector}
use Rattle.std.proofs.lemmas.List.{length-map}
use Rattle.family_points.specs.declared.order.ShopVector.{ShopVector}
use Rattle.family_points.specs.Inputs.{shop_vectors}
use Rattle.family_points.specs.Least.{AreAtLeast}
use Rattle.family_rows.specs.Tabled.{box_numbers}
use Rattle.family_numbers.specs.Numbers.{FamilyNumbers, shop_part}
use Rattle.family_rows.proofs.Public.{part_read, tables_at}
use Rattle.family_bases.proofs.Moved.{moved}
use Rattle.family_bases.proofs.LowPoints.{base_under, shops_more}
use Rattle.family_points.proofs.Public.{stock_read}
use Rattle.family_bases.proofs.lows.lows_at_base.Goals as goal

pub loop-n-preserved : goal.loop-n-preserved
loop-n-preserved g c =
    let here = c.base_of-here.result in
    let x = here.family.now in
    let j = here.site.0 in
    let n = c.loop-n.n in
    let items = here.base.now.shops.items in
    let all : List (List ℕ) = shop_vectors x j in
    let shops = c.index-shops.result.now in
    let after = c.lower_at_shops-least in
    let inside : n < length items = omega (arith, c.loop-n-test.true, c.len-n-end.ensures, here.base.now.shops.ok.0) in
    let within : n < length all = omega (arith, inside, length-map items (λ (v : ShopVector). v.stocks), ap length c.base_of-here.ensures.is.base.stocks) in
    let is : shops.stocks ≡ get_or all n [] = stock_read items n shops shops all c.base_of-here.ensures.is.base.stocks inside c.index-shops.ensures in
    record {
      under = shops_more x g.S.Score.ends here.depot.now j c.args.low c.args.high all n c.loop-n.least after.result shops.stocks within is after.ensures.lower c.loop-n.invariant.under
          after.ensures.under;
      most_low = omega (arith, after.ensures.lower.at_low, c.loop-n.invariant.most_low);
      most_high = omega (arith, after.ensures.lower.at_high, c.loop-n.invariant.most_high);
    }

pub returns-clause-at_low : goal.returns-clause-at_low
returns-clause-at_low g c =
    let here = c.base_of-here.result in
    let x = here.family.now in
    let items = here.base.now.shops.items in
    let all : length (shop_vectors x here.site.0) ≤ c.loop-n.n =
    omega (arith, c.loop-n-test.false, c.len-n-end.ensures, here.base.now.shops.ok.0, length-map items (λ (v : ShopVector). v.stocks), ap length c.base_of-here.ensures.is.base.stocks) in
    moved (AreAtLeast c.args.low.p c.args.low.q c.loop-n.least.at_low) g.S.Score.ends x c.args.sources.now.family.now here.depot.now c.args.depot.now here.site.0 c.args.j
    c.base_of-here.ensures.family c.base_of-here.ensures.depot c.base_of-here.ensures.site
    (base_under x c.base_of-here.ensures.is.valid g.S.Score.ends here.depot.now here.site.0 c.base_of-here.ensures.is.site c.args.low.p c.args.low.q c.loop-n.least.at_low c.loop-n.n all
    (λ w i s l h. (c.loop-n.invariant.under w i s l h).at_low))

pub returns-clause-at_high : goal.returns-clause-at_high
returns-clause-at_high g c =
    let here = c.base_of-here.result in
    let x = here.family.now in
    let items = here.base.now.shops.items in
    let all : length (shop_vectors x here.site.0) ≤ c.loop-n.n =
    omega (arith, c.loop-n-test.false, c.len-n-end.ensures, here.base.now.shops.ok.0, length-map items (λ (v : ShopVector). v.stocks), ap length c.base_of-here.ensures.is.base.stocks) in
    moved (AreAtLeast c.args.high.p c.args.high.q c.loop-n.least.at_high) g.S.Score.ends x c.args.sources.now.family.now here.depot.now c.args.depot.now here.site.0 c.args.j
    c.base_of-here.ensures.family c.base_of-here.ensures.depot c.base_of-here.ensures.site
    (base_under x c.base_of-here.ensures.is.valid g.S.Score.ends here.depot.now here.site.0 c.base_of-here.ensures.is.site c.args.high.p c.args.high.q c.loop-n.least.at_high c.loop-n.n all
    (λ w i s l h. (c.loop-n.invariant.under w i s l h).at_high))

pub own_at-own-requires-clause-here : goal.own_at-own-requires-clause-here
own_at-own-requires-clause-here g c = c.base_of-here.ensures.is

pub own_at-own-requires-clause-numbers : goal.own_at-own-requires-clause-numbers
own_at-own-requires-clause-numbers g c = c.requires.sources.numbers ∙ sym (ap box_numbers c.base_of-here.ensures.family)

pub own_at-own-requires-clause-tables : goal.own_at-own-requires-clause-tables
own_at-own-requires-clause-tables g c = tables_at _ _ _ _ _ c.base_of-here.ensures.family c.base_of-here.ensures.depot c.requires.tables

pub lower_at_shops-least-requires-clause-here : goal.lower_at_shops-least-requires-clause-here
lower_at_shops-least-requires-clause-here g c = c.base_of-here.ensures.is

pub lower_at_shops-least-requires-clause-numbers : goal.lower_at_shops-least-requires-clause-numbers
lower_at_shops-least-requires-clause-numbers g c = c.requires.sources.numbers ∙ sym (ap box_numbers c.base_of-here.ensures.family)

pub lower_at_shops-least-requires-clause-part : goal.lower_at_shops-least-requires-clause-part
lower_at_shops-least-requires-clause-part g c =
    let here = c.base_of-here.result in
    let x = here.family.now in
    let j = here.site.0 in
    let d = drop 1 here.depot.now in
    let n = c.loop-n.n in
    let items = here.base.now.shops.items in
    let all : List (List ℕ) = shop_vectors x j in
    let shops = c.index-shops.result.now in
    let inside : n < length items = omega (arith, c.loop-n-test.true, c.len-n-end.ensures, here.base.now.shops.ok.0) in
    let within : n < length all = omega (arith, inside, length-map items (λ (v : ShopVector). v.stocks), ap length c.base_of-here.ensures.is.base.stocks) in
    let is : shops.stocks ≡ get_or all n [] = stock_read items n shops shops all c.base_of-here.ensures.is.base.stocks inside c.index-shops.ensures in
    part_read x d j n c.shops_at-parts.result.now c.index-parts-n.result c.shops_at-parts.ensures within c.index-parts-n.is
    ∙ ap₂ (λ (m : FamilyNumbers 48) (s : List ℕ). shop_part 48 m j d s) (sym (c.requires.sources.numbers ∙ sym (ap box_numbers c.base_of-here.ensures.family))) (sym is)

pub shops_at-parts-requires-clause-here : goal.shops_at-parts-requires-clause-here
shops_at-parts-requires-clause-here g c = c.base_of-here.ensures.is

pub shops_at-parts-requires-clause-tables : goal.shops_at-parts-requires-clause-tables
shops_at-parts-requires-clause-tables g c = tables_at _ _ _ _ _ c.base_of-here.ensures.family c.base_of-here.ensures.depot c.requires.tables

pub lower_at_shops-least-requires-clause-low : goal.lower_at_shops-least-requires-clause-low
lower_at_shops-least-requires-clause-low g c = c.requires.low

pub lower_at_shops-least-requires-clause-high : goal.lower_at_shops-least-requires-clause-high
lower_at_shops-least-requires-clause-high g c = c.requires.high

pub lower_at_shops-least-requires-clause-own : goal.lower_at_shops-least-requires-clause-own
lower_at_shops-least-requires-clause-own g c = c.own_at-own.ensures

pub base_of-here-requires-clause-sources : goal.base_of-here-requires-clause-sources
base_of-here-requires-clause-sources g c = c.requires.sources

pub base_of-here-requires-clause-depot : goal.base_of-here-requires-clause-depot
base_of-here-requires-clause-depot g c = c.requires.depot

pub base_of-here-requires-clause-base : goal.base_of-here-requires-clause-base
base_of-here-requires-clause-base g c = c.requires.base

pub bounds-parts-n : goal.bounds-parts-n
bounds-parts-n g c =
    let here = c.base_of-here.result in
    let x = here.family.now in
    let j = here.site.0 in
    let items = here.base.now.shops.items in
    let all : List (List ℕ) = shop_vectors x j in
    let inside : c.loop-n.n < length items = omega (arith, c.loop-n-test.true, c.len-n-end.ensures, here.base.now.shops.ok.0) in
    let within : c.loop-n.n < length all = omega (arith, inside, length-map items (λ (v : ShopVector). v.stocks), ap length c.base_of-here.ensures.is.base.stocks) in
    subst (λ k. c.loop-n.n < k) (sym (ap length c.shops_at-parts.ensures ∙ length-map all (shop_part 48 (box_numbers x) j (drop 1 here.depot.now)))) within

pub offset_bounds-parts-n : goal.offset_bounds-parts-n
offset_bounds-parts-n g c =
    let most : length c.shops_at-parts.result.now * 64 < 9223372036854775808 = c.shops_at-parts.type_inv.1 in
    omega (arith, bounds-parts-n g c, most)

pub lower_at_shops-least-requires-clause-shops : goal.lower_at_shops-least-requires-clause-shops
lower_at_shops-least-requires-clause-shops g c =
    let here = c.base_of-here.result in
    let inside : c.loop-n.n < length here.base.now.shops.items = omega (arith, c.loop-n-test.true, c.len-n-end.ensures, here.base.now.shops.ok.0) in
    subst (IsShopVector here.family.now here.site.0) (sym c.index-shops.ensures) (c.base_of-here.ensures.is.base.are_vectors c.loop-n.n c.index-shops.result.now inside)
