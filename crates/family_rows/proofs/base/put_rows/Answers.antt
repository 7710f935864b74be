use Rattle.std.proofs.Common.{◌≡◌, ℕ, ◌<◌, List, [], get_or, length, map, set, take, refl, sym, ap, subst, arith}
use Rattle.std.specs.List.{AllZip}
use Rattle.std.proofs.lemmas.List.{get_or_default, length-map, take_all}
use Rattle.std.proofs.Math.ListN.{length-set}
use Rattle.family_points.specs.declared.order.ShopVector.{ShopVector}
use Rattle.family_points.specs.Inputs.{shop_vectors}
use Rattle.family_rows.specs.Spots.{IsRow}
use Rattle.family_rows.proofs.Rows.{row_put, rows_taken}
use Rattle.family_rows.proofs.base.put_rows.Goals as goal

pub loop-n-init : goal.loop-n-init
loop-n-init c =
    let x = c.args.here.now.family.now in
    let items = c.args.here.now.base.now.shops.items in
    record {
      long = omega (
        arith,
        c.in_ok-make_rows.ensures,
        c.len-count.ensures,
        c.args.here.now.base.now.shops.ok.0,
        c.make_rows.new.rows.ok.0,
        length-map items (λ (v : ShopVector). v.stocks),
        ap length c.requires.here.base.stocks,
      );
      rows = tt;
    }

pub put_row-requires-clause-place : goal.put_row-requires-clause-place
put_row-requires-clause-place c =
    let items = c.args.here.now.base.now.shops.items in
    omega (
      arith,
      c.loop-n-test.true,
      c.len-count.ensures,
      c.args.here.now.base.now.shops.ok.0,
      length-map items (λ (v : ShopVector). v.stocks),
      ap length c.requires.here.base.stocks,
    )

pub loop-n-preserved : goal.loop-n-preserved
loop-n-preserved c =
    let x = c.args.here.now.family.now in
    let j = c.args.here.now.site.0 in
    let d = c.args.here.now.depot.now in
    let items = c.args.here.now.base.now.shops.items in
    let all : List (List ℕ) = shop_vectors x j in
    let row = c.put_row.new.row in
    let n = c.loop-n.n in
    let inside : n < length items = omega (arith, c.loop-n-test.true, c.len-count.ensures, c.args.here.now.base.now.shops.ok.0) in
    let within : n < length all = omega (arith, inside, length-map items (λ (v : ShopVector). v.stocks), ap length c.requires.here.base.stocks) in
    record {
      long = simp length-set c.loop-n.invariant.long;
      rows = row_put (λ r. r.items) (IsRow x d j) all c.loop-n.rows.items (set c.loop-n.rows.items n row) n (get_or all n []) row c.loop-n.invariant.rows within
          (omega (arith, within, c.loop-n.invariant.long)) (get_or_default all n [] (get_or all n []) within) refl c.in_ok-put_row.ensures;
    }

pub returns-clause-rows : goal.returns-clause-rows
returns-clause-rows c =
    let x = c.args.here.now.family.now in
    let j = c.args.here.now.site.0 in
    let items = c.args.here.now.base.now.shops.items in
    let all : List (List ℕ) = shop_vectors x j in
    let end : c.loop-n.n ≡ length all =
    omega (
      arith,
      c.loop-n-test.false,
      c.loop-n.auto.n-end,
      c.len-count.ensures,
      c.args.here.now.base.now.shops.ok.0,
      length-map items (λ (v : ShopVector). v.stocks),
      ap length c.requires.here.base.stocks,
    ) in
    rows_taken (λ r. r.items) c.args.here.now c.loop-n.rows.items c.loop-n.rows.items (length all) c.loop-n.n (sym end) refl
    (subst (λ (l : List (List ℕ)). AllZip (IsRow x c.args.here.now.depot.now j) l (map (λ r. r.items) (take c.loop-n.n c.loop-n.rows.items))) (take_all c.loop-n.n all (omega (arith, end)))
    c.loop-n.invariant.rows)
