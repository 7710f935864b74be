use Rattle.std.proofs.Common.{◌≡◌, ℕ, ◌-◌, ◌+◌, ◌<◌, ◌≤◌, ◌++◌, ◌∷◌, [], ◌∙◌, List, get_or, length, map, take, ap, ap₂, arith, lit<, subst, sym}
use Rattle.std.proofs.lemmas.List.{length-map, map-append, take_all}
use Rattle.list_laws.proofs.Public.{take_next}
use Rattle.fixed_interval.specs.Ends.{InScale}
use Rattle.family_numbers.specs.Numbers.{FamilyNumbers, shop_part}
use Rattle.family_points.specs.declared.order.Base.{Base}
use Rattle.family_points.specs.declared.order.ShopVector.{ShopVector}
use Rattle.family_points.specs.Choices.{AreBases, IsBaseOf, IsShopVector}
use Rattle.family_points.specs.Inputs.{AreShopsAt, FamilyBox, shop_vectors}
use Rattle.family_points.proofs.Public.{base_read, bases_long, stock_read}
use Rattle.family_rows.specs.Tabled.{box_numbers}
use Rattle.family_rows.proofs.Tabled.{have_shops, shop_stocks}
use Rattle.family_rows.proofs.depot.put_parts.Goals as goal

pub overflow_sub-from : goal.overflow_sub-from
overflow_sub-from c = omega (arith, c.from.ensures, c.requires.site.0)

pub index-base-requires : goal.index-base-requires
index-base-requires c =
    omega (
      arith,
      bases_long c.args.sources.now.family.now c.args.sources.now.bases.items c.requires.sources.bases,
      c.args.sources.now.bases.ok.0,
      c.requires.site.0,
      c.requires.site.1,
      c.from.ensures,
    )

-- the base whose number was read
read : (x : FamilyBox) (j from : ℕ) (bases : List Base) (b : Base) → from ≡ j → 0 < j → j < length x.case.sites → AreBases x bases → b ≡ get_or bases (from - 1) b → IsBaseOf x j b
read x j from bases b e some most h g = base_read x j bases b h some most (g ∙ ap (λ n. get_or bases (n - 1) b) e)

-- one more vector's part
part_more : {X : Type 0} (f : List ℕ → X) (all : List (List ℕ)) (n : ℕ) (xs ys : List X) (x : X) → n < length all → ys ≡ xs ++ x ∷ [] → xs ≡ map f (take n all)
    → x ≡ f (get_or all n []) → ys ≡ map f (take (n + 1) all)
part_more {X} f all n xs ys x h e g t =
    e ∙ ap₂ (λ (zs : List X) (z : X). zs ++ z ∷ []) g t
    ∙ sym (ap (map f) (take_next all n h) ∙ map-append f (take n all) (get_or all n [] ∷ []))

pub shop_part-part-requires : goal.shop_part-part-requires
shop_part-part-requires c =
    let sources = c.args.sources.now in
    let x = sources.family.now in
    let j = c.args.site.0 in
    let valid = c.invariant.ensures.valid in
    let base = read x j c.from.result sources.bases.items c.index-base.result.now c.from.ensures c.requires.site.0 c.requires.site.1 c.requires.sources.bases c.index-base.ensures in
    let items = c.index-base.result.now.shops.items in
    let shops = c.index.result.now in
    let inside : c.loop-n.n < length items = omega (arith, c.loop-n-test.true, c.len-n-end.ensures, c.index-base.result.now.shops.ok.0) in
    let vector : IsShopVector x j shops = subst (IsShopVector x j) (sym c.index.ensures) (base.are_vectors c.loop-n.n shops inside) in
    let stocks = shop_stocks x valid j c.as_slice-stocks.result.now sources.numbers c.requires.sources.numbers c.requires.site.1
    (subst (AreShopsAt x j) (sym c.as_slice-stocks.ensures) vector.within) in
    let have = have_shops x valid sources.numbers sources.base_shops c.args.depot.now c.requires.sources.numbers c.requires.sources.base_shops c.requires.depot in
    let here : j < sources.numbers.sites = subst (λ (n : FamilyNumbers 48). j < n.sites) (sym c.requires.sources.numbers) c.requires.site.1 in
    let scale : InScale 48 = (omega arith, omega arith) in
    (lit< tt, (lit< tt, (lit< tt, (scale, (have, (c.requires.site.0, (here, (stocks.count, stocks.small))))))))

pub loop-n-preserved : goal.loop-n-preserved
loop-n-preserved c =
    let sources = c.args.sources.now in
    let x = sources.family.now in
    let j = c.args.site.0 in
    let d = c.args.depot.now in
    let n = c.loop-n.n in
    let base = read x j c.from.result sources.bases.items c.index-base.result.now c.from.ensures c.requires.site.0 c.requires.site.1 c.requires.sources.bases c.index-base.ensures in
    let items = c.index-base.result.now.shops.items in
    let shops = c.index.result.now in
    let all : List (List ℕ) = shop_vectors x j in
    let inside : n < length items = omega (arith, c.loop-n-test.true, c.len-n-end.ensures, c.index-base.result.now.shops.ok.0) in
    let within : n < length all = omega (arith, inside, length-map items (λ (v : ShopVector). v.stocks), ap length base.stocks) in
    let stocks : c.as_slice-stocks.result.now ≡ get_or all n [] = c.as_slice-stocks.ensures ∙ stock_read items n shops shops all base.stocks inside c.index.ensures in
    part_more (shop_part 48 (box_numbers x) j d) all n c.loop-n.parts.items c.push.new.self.items c.shop_part-part.result within c.in_ok-push.ensures.items c.loop-n.invariant
    (c.shop_part-part.ensures ∙ ap₂ (λ (m : FamilyNumbers 48) (s : List ℕ). shop_part 48 m j d s) c.requires.sources.numbers stocks)

pub returns : goal.returns
returns c =
    let sources = c.args.sources.now in
    let x = sources.family.now in
    let j = c.args.site.0 in
    let base = read x j c.from.result sources.bases.items c.index-base.result.now c.from.ensures c.requires.site.0 c.requires.site.1 c.requires.sources.bases c.index-base.ensures in
    let items = c.index-base.result.now.shops.items in
    let all : List (List ℕ) = shop_vectors x j in
    let end : length all ≤ c.loop-n.n =
    omega (
      arith,
      c.loop-n-test.false,
      c.len-n-end.ensures,
      c.index-base.result.now.shops.ok.0,
      length-map items (λ (v : ShopVector). v.stocks),
      ap length base.stocks,
    ) in
    c.loop-n.invariant ∙ ap (map (shop_part 48 (box_numbers x) j c.args.depot.now)) (take_all c.loop-n.n all end)
