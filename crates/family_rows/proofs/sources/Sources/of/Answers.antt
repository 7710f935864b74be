use Rattle.std.proofs.Common.{◌≡◌, ℕ, ◌<◌, List, drop, length, sym, ap, ◌∙◌, subst, arith, lit<}
use Rattle.family_numbers.specs.BaseTables.{AreBaseShops, AreShopBounds}
use Rattle.family_points.specs.Inputs.{shop_high, shop_low}
use Rattle.family_points.proofs.Public.{low_some}
use Rattle.family_rows.proofs.Tabled.{shop_bounds}
use Rattle.family_rows.proofs.sources.Sources.of.Goals as goal

pub shops_of-low-requires : goal.shops_of-low-requires
shops_of-low-requires c =
    let x = c.args.family.now in
    let valid = c.invariant.ensures.valid in
    subst (λ (v : List ℕ). 0 < length v) (sym c.low.ensures) (low_some x valid 0 (omega (arith, valid.valid.frame.fewest_sites)))

pub of-requires : goal.of-requires
of-requires c =
    let x = c.args.family.now in
    let n = c.in_ok-numbers.numbers in
    let low : c.shops_of-low.result.now ≡ shop_low x 0 = c.shops_of-low.ensures ∙ ap (drop 1) c.low.ensures in
    let high : c.shops_of-high.result.now ≡ shop_high x 0 = c.shops_of-high.ensures ∙ ap (drop 1) c.high.ensures.high in
    let bounds = shop_bounds x c.invariant.ensures.valid n c.in_ok-numbers.ensures in
    let is : AreShopBounds n c.shops_of-low.result.now c.shops_of-high.result.now = subst (λ v. AreShopBounds n v c.shops_of-high.result.now) (sym low)
    (subst (λ v. AreShopBounds n (shop_low x 0) v) (sym high) bounds) in
    (lit< tt, (lit< tt, (lit< tt, (c.as_slice.ensures.value ∙ c.in_ok-depot_shops.ensures, is))))

pub returns-clause-are : goal.returns-clause-are
returns-clause-are c =
    let x = c.args.family.now in
    let n = c.in_ok-numbers.numbers in
    let low : c.shops_of-low.result.now ≡ shop_low x 0 = c.shops_of-low.ensures ∙ ap (drop 1) c.low.ensures in
    let high : c.shops_of-high.result.now ≡ shop_high x 0 = c.shops_of-high.ensures ∙ ap (drop 1) c.high.ensures.high in
    record {
      numbers = c.in_ok-numbers.ensures;
      bases = c.in_ok-bases.ensures;
      depot_shops = c.in_ok-depot_shops.ensures;
      base_shops = subst (λ v. AreBaseShops 48 n v (shop_high x 0) c.in_ok-base_shops.base_shops) low
          (subst (λ v. AreBaseShops 48 n c.shops_of-low.result.now v c.in_ok-base_shops.base_shops) high c.in_ok-base_shops.ensures);
    }
