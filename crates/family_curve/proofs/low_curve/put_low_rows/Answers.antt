use Rattle.std.proofs.Common.{◌≡◌, ℕ, ◌*◌, ◌<◌, ◌∙◌, List, [], drop, get_or, length, map, set, take, refl, sym, ap, ap₂, subst, arith}
use Rattle.std.specs.List.{AllZip}
use Rattle.std.proofs.lemmas.List.{get_or_default, length-map, take_all}
use Rattle.std.proofs.Math.ListN.{length-set}
use Rattle.family_numbers.specs.Numbers.{FamilyNumbers, shop_part}
use Rattle.family_points.specs.declared.order.ShopVector.{ShopVector}
use Rattle.family_points.specs.Choices.{IsShopVector}
use Rattle.family_points.specs.Inputs.{AreShopsAt, shop_vectors}
use Rattle.family_points.proofs.Public.{stock_read}
use Rattle.family_rows.specs.Tabled.{box_numbers}
use Rattle.family_rows.proofs.Public.{part_read}
use Rattle.family_curve.specs.LowCurves.{IsLowRow}
use Rattle.family_curve.proofs.LowCurves.{row_put, rows_taken}
use Rattle.family_curve.proofs.low_curve.put_low_rows.Goals as goal

pub loop-n-init : goal.loop-n-init
loop-n-init c =
    let items = c.args.here.now.base.now.shops.items in
    record {
      long = omega (
        arith,
        c.in_ok-make_rows.ensures,
        c.len-count.ensures,
        c.args.here.now.base.now.shops.ok.0,
        c.make_rows.new.rows.ok.0,
        length-map items (λ (v : ShopVector). v.stocks),
        ap length c.requires.here.base.stocks,
      );
      rows = tt;
    }

pub put_low_row-requires-clause-shops : goal.put_low_row-requires-clause-shops
put_low_row-requires-clause-shops c =
    let x = c.args.here.now.family.now in
    let j = c.args.here.now.site.0 in
    let shops = c.index.result.now in
    let items = c.args.here.now.base.now.shops.items in
    let inside : c.loop-n.n < length items = omega (arith, c.loop-n-test.true, c.len-count.ensures, c.args.here.now.base.now.shops.ok.0) in
    let vector : IsShopVector x j shops = subst (IsShopVector x j) (sym c.index.ensures) (c.requires.here.base.are_vectors c.loop-n.n shops inside) in
    subst (AreShopsAt x j) (sym c.as_slice-shops.ensures) vector.within

pub put_low_row-requires-clause-part : goal.put_low_row-requires-clause-part
put_low_row-requires-clause-part c =
    let x = c.args.here.now.family.now in
    let j = c.args.here.now.site.0 in
    let d = drop 1 c.args.here.now.depot.now in
    let shops = c.index.result.now in
    let items = c.args.here.now.base.now.shops.items in
    let all : List (List ℕ) = shop_vectors x j in
    let n = c.loop-n.n in
    let inside : n < length items = omega (arith, c.loop-n-test.true, c.len-count.ensures, c.args.here.now.base.now.shops.ok.0) in
    let within : n < length all = omega (arith, inside, length-map items (λ (v : ShopVector). v.stocks), ap length c.requires.here.base.stocks) in
    let stocks : c.as_slice-shops.result.now ≡ get_or all n [] =
    c.as_slice-shops.ensures ∙ stock_read items n shops shops all c.requires.here.base.stocks inside c.index.ensures in
    part_read x d j n c.shops_at-parts.result.now c.index-parts-n.result c.shops_at-parts.ensures within c.index-parts-n.is
    ∙ ap₂ (λ (m : FamilyNumbers 48) (s : List ℕ). shop_part 48 m j d s) (sym c.requires.numbers) (sym stocks)

pub bounds-parts-n : goal.bounds-parts-n
bounds-parts-n c =
    let here = c.args.here.now in
    let x = here.family.now in
    let j = here.site.0 in
    let items = here.base.now.shops.items in
    let all : List (List ℕ) = shop_vectors x j in
    let inside : c.loop-n.n < length items = omega (arith, c.loop-n-test.true, c.len-count.ensures, here.base.now.shops.ok.0) in
    let within : c.loop-n.n < length all = omega (arith, inside, length-map items (λ (v : ShopVector). v.stocks), ap length c.requires.here.base.stocks) in
    subst (λ k. c.loop-n.n < k) (sym (ap length c.shops_at-parts.ensures ∙ length-map all (shop_part 48 (box_numbers x) j (drop 1 here.depot.now)))) within

pub offset_bounds-parts-n : goal.offset_bounds-parts-n
offset_bounds-parts-n c =
    let most : length c.shops_at-parts.result.now * 64 < 9223372036854775808 = c.shops_at-parts.type_inv.1 in
    omega (arith, bounds-parts-n c, most)

pub loop-n-preserved : goal.loop-n-preserved
loop-n-preserved c =
    let x = c.args.here.now.family.now in
    let j = c.args.here.now.site.0 in
    let d = c.args.here.now.depot.now in
    let items = c.args.here.now.base.now.shops.items in
    let all : List (List ℕ) = shop_vectors x j in
    let shops = c.index.result.now in
    let row = c.put_low_row.new.row in
    let n = c.loop-n.n in
    let inside : n < length items = omega (arith, c.loop-n-test.true, c.len-count.ensures, c.args.here.now.base.now.shops.ok.0) in
    let within : n < length all = omega (arith, inside, length-map items (λ (v : ShopVector). v.stocks), ap length c.requires.here.base.stocks) in
    let stocks : c.as_slice-shops.result.now ≡ get_or all n [] =
    c.as_slice-shops.ensures ∙ stock_read items n shops shops all c.requires.here.base.stocks inside c.index.ensures in
    record {
      long = simp length-set c.loop-n.invariant.long;
      rows = row_put (λ r. r.items) (IsLowRow x d j) all c.loop-n.rows.items (set c.loop-n.rows.items n row) n (get_or all n []) row c.loop-n.invariant.rows within
          (omega (arith, within, c.loop-n.invariant.long)) (get_or_default all n [] (get_or all n []) within) refl
          (subst (λ (v : List ℕ). IsLowRow x d j v row.items) stocks c.in_ok-put_low_row.ensures);
    }

pub returns-clause-rows : goal.returns-clause-rows
returns-clause-rows c =
    let x = c.args.here.now.family.now in
    let j = c.args.here.now.site.0 in
    let items = c.args.here.now.base.now.shops.items in
    let all : List (List ℕ) = shop_vectors x j in
    let end : c.loop-n.n ≡ length all =
    omega (
      arith,
      c.loop-n-test.false,
      c.loop-n.auto.n-end,
      c.len-count.ensures,
      c.args.here.now.base.now.shops.ok.0,
      length-map items (λ (v : ShopVector). v.stocks),
      ap length c.requires.here.base.stocks,
    ) in
    rows_taken (λ r. r.items) (IsLowRow x c.args.here.now.depot.now j) all c.loop-n.rows.items c.loop-n.rows.items (length all) c.loop-n.n (sym end) refl
    (subst (λ (l : List (List ℕ)). AllZip (IsLowRow x c.args.here.now.depot.now j) l (map (λ r. r.items) (take c.loop-n.n c.loop-n.rows.items))) (take_all c.loop-n.n all (omega (arith, end)))
    c.loop-n.invariant.rows)
