use Rattle.std.proofs.Common.{◌≡◌, ℕ, ◌+◌, ◌*◌, ◌/◌, ◌^◌, ◌<◌, ◌≤◌, min, ◌∙◌, List, [], drop, get_or, length, refl, sym, ap, ap₂, subst, arith}
use Rattle.std.proofs.lemmas.List.{length-map}
use Rattle.depot_pipeline.specs.declared.Moments.{Moments}
use Rattle.family_numbers.specs.Numbers.{FamilyNumbers, pair_at, shop_part}
use Rattle.family_points.specs.declared.order.ShopVector.{ShopVector}
use Rattle.family_points.specs.Inputs.{FamilyBox, shop_vectors}
use Rattle.family_points.specs.Least.{AreAtLeast}
use Rattle.family_points.proofs.Public.{stock_read}
use Rattle.family_rows.specs.Tabled.{box_numbers}
use Rattle.family_rows.proofs.Public.{part_read, tables_at}
use Rattle.depot_lows.specs.Rough.{AreFewest}
use Rattle.family_bases.proofs.Public.{base_under, moved, shops_more}
use Rattle.depot_lows.proofs.RoughFacts.{depot_named, fewest_without}
use Rattle.depot_lows.proofs.rough.rough_at_base.Goals as goal

pub lower_at_shops-least-requires-clause-fewest : goal.lower_at_shops-least-requires-clause-fewest
lower_at_shops-least-requires-clause-fewest g c =
    let here = c.base_of-here.result in
    let x = here.family.now in
    let j = here.site.0 in
    let v = drop 1 here.depot.now in
    let n = c.loop-n.n in
    let items = here.base.now.shops.items in
    let all : List (List ℕ) = shop_vectors x j in
    let shops = c.index-shops.result.now in
    let pair = c.pair-pair.result in
    let part = c.index-parts-n.result in
    let named = c.base_of-here.ensures in
    let inside : n < length items = omega (arith, c.loop-n-test.true, c.len-n-end.ensures, here.base.now.shops.ok.0) in
    let within : n < length all = omega (arith, inside, length-map items (λ (v : ShopVector). v.stocks), ap length named.is.base.stocks) in
    let is : shops.stocks ≡ get_or all n [] = stock_read items n shops shops all named.is.base.stocks inside c.index-shops.ensures in
    let pair_is : pair ≡ pair_at (box_numbers x) 0 j =
    c.pair-pair.ensures.is ∙ ap₂ (λ (m : FamilyNumbers 48) (k : ℕ). pair_at m 0 k) (c.requires.sources.numbers ∙ sym (ap box_numbers named.family)) (sym named.site) in
    let part_is : part ≡ shop_part 48 (box_numbers x) j v shops.stocks =
    part_read x v j n c.shops_at-parts.result.now part c.shops_at-parts.ensures within c.index-parts-n.is ∙ ap (λ (s : List ℕ). shop_part 48 (box_numbers x) j v s) (sym is) in
    let tables = tables_at _ x _ here.depot.now c.args.tables.now named.family named.depot c.requires.tables in
    let few : AreFewest x c.args.tables.now.line c.args.fewest = subst (λ (y : FamilyBox). AreFewest y c.args.tables.now.line c.args.fewest) (sym named.family) c.requires.fewest in
    let made : c.min-mean.result ≡ min (c.lo.result + c.lo-2.result * c.args.fewest / 2 ^ 48 + c.lo-in-loop-n.result) pair.cap = c.min-mean.ensures in
    let mean : c.min-mean.result ≡ min (pair.direct.lo + pair.share.lo * c.args.fewest / 2 ^ 48 + part.mean.lo) pair.cap =
    made ∙ ap₂ (λ u w. min (u + w * c.args.fewest / 2 ^ 48 + c.lo-in-loop-n.result) pair.cap) c.lo.ensures.end c.lo-2.ensures.end
    ∙ ap (λ w. min (pair.direct.lo + pair.share.lo * c.args.fewest / 2 ^ 48 + w) pair.cap) (c.lo-in-loop-n.ensures.end ∙ ap (λ (m : Moments 48). m.mean.lo) (sym c.index-parts-n.is)) in
    fewest_without x named.is.valid v j shops.stocks c.args.tables.now.line pair part c.args.fewest c.min-mean.result pair_is c.pair-pair.ensures.valid c.lo.ensures.valid.ordered part_is tables.line few mean

pub loop-n-preserved : goal.loop-n-preserved
loop-n-preserved g c =
    let here = c.base_of-here.result in
    let x = here.family.now in
    let j = here.site.0 in
    let n = c.loop-n.n in
    let items = here.base.now.shops.items in
    let all : List (List ℕ) = shop_vectors x j in
    let shops = c.index-shops.result.now in
    let after = c.lower_at_shops-least in
    let inside : n < length items = omega (arith, c.loop-n-test.true, c.len-n-end.ensures, here.base.now.shops.ok.0) in
    let within : n < length all = omega (arith, inside, length-map items (λ (v : ShopVector). v.stocks), ap length c.base_of-here.ensures.is.base.stocks) in
    let is : shops.stocks ≡ get_or all n [] = stock_read items n shops shops all c.base_of-here.ensures.is.base.stocks inside c.index-shops.ensures in
    record {
      under = λ w i d h. shops_more x g.S.Score.ends d j c.args.low c.args.high all n c.loop-n.least after.result shops.stocks within is after.ensures.lower
          (λ u k. c.loop-n.invariant.under u k d h) (after.ensures.under d h) w i;
      most_low = omega (arith, after.ensures.lower.at_low, c.loop-n.invariant.most_low);
      most_high = omega (arith, after.ensures.lower.at_high, c.loop-n.invariant.most_high);
    }

pub returns-clause-under : goal.returns-clause-under
returns-clause-under g c =
    let here = c.base_of-here.result in
    let x = here.family.now in
    let y = c.args.sources.now.family.now in
    let j = here.site.0 in
    let named = c.base_of-here.ensures in
    let items = here.base.now.shops.items in
    let ends = g.S.Score.ends in
    let low = c.args.low in
    let high = c.args.high in
    let all : length (shop_vectors x j) ≤ c.loop-n.n =
    omega (arith, c.loop-n-test.false, c.len-n-end.ensures, here.base.now.shops.ok.0, length-map items (λ (v : ShopVector). v.stocks), ap length named.is.base.stocks) in
    record {
      at_low = λ d h. moved (AreAtLeast low.p low.q c.loop-n.least.at_low) ends x y d d j c.args.j named.family refl named.site
          (base_under x named.is.valid ends d j named.is.site low.p low.q c.loop-n.least.at_low c.loop-n.n all
          (λ w i s l k. (c.loop-n.invariant.under w i d (depot_named y x (drop 1 c.args.depot.now) (drop 1 here.depot.now) d named.family (ap (drop 1) named.depot) h) s l k).at_low));
      at_high = λ d h. moved (AreAtLeast high.p high.q c.loop-n.least.at_high) ends x y d d j c.args.j named.family refl named.site
          (base_under x named.is.valid ends d j named.is.site high.p high.q c.loop-n.least.at_high c.loop-n.n all
          (λ w i s l k. (c.loop-n.invariant.under w i d (depot_named y x (drop 1 c.args.depot.now) (drop 1 here.depot.now) d named.family (ap (drop 1) named.depot) h) s l k).at_high));
    }
