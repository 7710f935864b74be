use Rattle.std.proofs.Common.{◌≡◌, ℕ, ◌<◌, ◌≤◌, ◌∷◌, ◌++◌, ◌∙◌, List, [], drop, get_or, length, take, sym, ap, ap₂, subst, arith}
use Rattle.std.specs.List.{AllZip}
use Rattle.std.proofs.lemmas.List.{get_or_default, length-map, take_all}
use Rattle.list_laws.proofs.Public.{take_on}
use Rattle.family_numbers.specs.Numbers.{FamilyNumbers, shop_part}
use Rattle.family_points.specs.declared.order.ShopVector.{ShopVector}
use Rattle.family_points.specs.Choices.{IsShopVector}
use Rattle.family_points.specs.Inputs.{shop_vectors}
use Rattle.family_points.proofs.Public.{stock_read}
use Rattle.family_rows.proofs.Public.{part_read}
use Rattle.family_rows.specs.Tabled.{box_numbers}
use Rattle.family_bases.specs.declared.lows.Lows.{Lows}
use Rattle.family_bases.specs.Lows.{AreUnderEach}
use Rattle.family_bases.proofs.lows.put_lows.Goals as goal

-- two lists in a relation place by place stay so with a related pair put behind them
zip_more : {X Y : Type 0} (R : X → Y → Type 0) (xs : List X) (ys : List Y) (x : X) (y : Y) → AllZip R xs ys → R x y → AllZip R (xs ++ x ∷ []) (ys ++ y ∷ [])
zip_more R [] [] x y a h = (h, tt)
zip_more R [] (b ∷ ys) x y a h = absurd a
zip_more R (c ∷ xs) [] x y a h = absurd a
zip_more R (c ∷ xs) (b ∷ ys) x y a h = (a.0, zip_more R xs ys x y a.1 h)

pub loop-n-preserved : goal.loop-n-preserved
loop-n-preserved g c =
    let here = c.args.here.now in
    let x = here.family.now in
    let j = here.site.0 in
    let n = c.loop-n.n in
    let items = here.base.now.shops.items in
    let all : List (List ℕ) = shop_vectors x j in
    let shops = c.index-shops.result.now in
    let found : Lows = c.lower_at_shops-found.result in
    let inside : n < length items = omega (arith, c.loop-n-test.true, c.len-count.ensures, here.base.now.shops.ok.0) in
    let within : n < length all = omega (arith, inside, length-map items (λ (v : ShopVector). v.stocks), ap length c.requires.here.base.stocks) in
    let is : shops.stocks ≡ get_or all n [] = stock_read items n shops shops all c.requires.here.base.stocks inside c.index-shops.ensures in
    let here_is : shops.stocks ≡ get_or all n shops.stocks = is ∙ get_or_default all n [] shops.stocks within in
    let under = AreUnderEach g.S.Score.ends x here.depot.now j c.args.low c.args.high in
    record {
      under = subst (λ (l : List (List ℕ)). AllZip under l c.push.new.self.items) (sym (take_on all n shops.stocks within here_is))
          (subst (λ (l : List Lows). AllZip under (take n all ++ shops.stocks ∷ []) l) (sym c.in_ok-push.ensures.items)
          (zip_more under (take n all) c.loop-n.lows.items shops.stocks found c.loop-n.invariant.under c.lower_at_shops-found.ensures.under));
    }

pub returns : goal.returns
returns g c =
    let here = c.args.here.now in
    let x = here.family.now in
    let items = here.base.now.shops.items in
    let all : length (shop_vectors x here.site.0) ≤ c.loop-n.n =
    omega (arith, c.loop-n-test.false, c.len-count.ensures, here.base.now.shops.ok.0, length-map items (λ (v : ShopVector). v.stocks), ap length c.requires.here.base.stocks) in
    subst (λ (l : List (List ℕ)). AllZip (AreUnderEach g.S.Score.ends x here.depot.now here.site.0 c.args.low c.args.high) l c.loop-n.lows.items)
    (take_all c.loop-n.n (shop_vectors x here.site.0) all) c.loop-n.invariant.under

pub lower_at_shops-found-requires-clause-part : goal.lower_at_shops-found-requires-clause-part
lower_at_shops-found-requires-clause-part g c =
    let here = c.args.here.now in
    let x = here.family.now in
    let j = here.site.0 in
    let d = drop 1 here.depot.now in
    let n = c.loop-n.n in
    let items = here.base.now.shops.items in
    let all : List (List ℕ) = shop_vectors x j in
    let shops = c.index-shops.result.now in
    let inside : n < length items = omega (arith, c.loop-n-test.true, c.len-count.ensures, here.base.now.shops.ok.0) in
    let within : n < length all = omega (arith, inside, length-map items (λ (v : ShopVector). v.stocks), ap length c.requires.here.base.stocks) in
    let is : shops.stocks ≡ get_or all n [] = stock_read items n shops shops all c.requires.here.base.stocks inside c.index-shops.ensures in
    part_read x d j n c.args.parts.now c.index-parts-n.result c.requires.parts within c.index-parts-n.is
    ∙ ap₂ (λ (m : FamilyNumbers 48) (s : List ℕ). shop_part 48 m j d s) (sym c.requires.numbers) (sym is)

pub bounds-parts-n : goal.bounds-parts-n
bounds-parts-n g c =
    let here = c.args.here.now in
    let x = here.family.now in
    let j = here.site.0 in
    let items = here.base.now.shops.items in
    let all : List (List ℕ) = shop_vectors x j in
    let inside : c.loop-n.n < length items = omega (arith, c.loop-n-test.true, c.len-count.ensures, here.base.now.shops.ok.0) in
    let within : c.loop-n.n < length all = omega (arith, inside, length-map items (λ (v : ShopVector). v.stocks), ap length c.requires.here.base.stocks) in
    subst (λ k. c.loop-n.n < k) (sym (ap length c.requires.parts ∙ length-map all (shop_part 48 (box_numbers x) j (drop 1 here.depot.now)))) within

pub lower_at_shops-found-requires-clause-shops : goal.lower_at_shops-found-requires-clause-shops
lower_at_shops-found-requires-clause-shops g c =
    let here = c.args.here.now in
    let inside : c.loop-n.n < length here.base.now.shops.items = omega (arith, c.loop-n-test.true, c.len-count.ensures, here.base.now.shops.ok.0) in
    subst (IsShopVector here.family.now here.site.0) (sym c.index-shops.ensures) (c.requires.here.base.are_vectors c.loop-n.n c.index-shops.result.now inside)
