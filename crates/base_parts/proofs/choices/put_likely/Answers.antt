use Rattle.std.proofs.Common.{◌≡◌, ◌<◌, List, [], get_or, length, map, set, refl, sym, ap, ◌∙◌, subst, arith}
use Rattle.std.proofs.lemmas.List.{get_or_default, length-map}
use Rattle.fixed_interval.specs.Ends.{Ends}
use Rattle.family_points.specs.declared.order.Choice.{Choice}
use Rattle.family_points.specs.declared.order.ShopVector.{ShopVector}
use Rattle.family_points.specs.Choices.{IsChoice}
use Rattle.family_points.specs.Inputs.{shop_vectors}
use Rattle.base_parts.specs.Choices.{AreKept}
use Rattle.base_parts.proofs.Kept.{kept_put, none_kept, put_at}
use Rattle.base_parts.proofs.choices.put_likely.Goals as goal

pub put_kept-requires-clause-rows : goal.put_kept-requires-clause-rows
put_kept-requires-clause-rows g c =
    let b = c.args.here.now in
    let order = b.base.now.order.items in
    let v : Choice = c.index.result.now in
    let choice : IsChoice b.family.now b.site.0 v = subst (IsChoice b.family.now b.site.0) (sym c.index.ensures) (c.requires.here.base.order.choices c.args.at v c.requires.within) in
    let items = b.base.now.shops.items in
    let stocks = length-map items (λ (v : ShopVector). v.stocks) in
    let count : length (shop_vectors b.family.now b.site.0) ≡ c.len.result = omega (arith, c.len.ensures, b.base.now.shops.ok.0, stocks, ap length c.requires.here.base.stocks) in
    let rows = c.clear_rows.new.rows.items in
    let row = c.put_row.new.row in
    let made = set rows v.shops row in
    let inside : v.shops < length rows = omega (arith, count, choice.place, c.in_ok-clear_rows.ensures.long) in
    let empty : AreKept b (map (λ r. r.items) rows) = none_kept b (map (λ r. r.items) rows) (λ k l. c.in_ok-clear_rows.ensures.empty k (omega (arith, l, count))) in
    let kept : AreKept b (map (λ r. r.items) made) = kept_put (λ r. r.items) rows made v.shops row refl inside b empty c.in_ok-put_row.ensures in
    subst (λ rs. AreKept b (map (λ r. r.items) rs)) (sym c.as_slice.ensures.value) kept

pub put_kept-requires-clause-kept : goal.put_kept-requires-clause-kept
put_kept-requires-clause-kept g c =
    let b = c.args.here.now in
    let order = b.base.now.order.items in
    let v : Choice = c.index.result.now in
    let choice : IsChoice b.family.now b.site.0 v = subst (IsChoice b.family.now b.site.0) (sym c.index.ensures) (c.requires.here.base.order.choices c.args.at v c.requires.within) in
    let items = b.base.now.shops.items in
    let stocks = length-map items (λ (v : ShopVector). v.stocks) in
    let count : length (shop_vectors b.family.now b.site.0) ≡ c.len.result = omega (arith, c.len.ensures, b.base.now.shops.ok.0, stocks, ap length c.requires.here.base.stocks) in
    let rows = c.clear_rows.new.rows.items in
    let row = c.put_row.new.row in
    let made = set rows v.shops row in
    let inside : v.shops < length rows = omega (arith, count, choice.place, c.in_ok-clear_rows.ensures.long) in
    let long = c.in_ok-put_row.ensures.long in
    let here : 0 < length (get_or (map (λ r. r.items) made) v.shops []) =
    subst (λ (r : List Ends). 0 < length r) (sym (put_at (λ r. r.items) rows made v.shops row refl inside)) (omega (arith, long)) in
    λ u e. (
    let same : v ≡ u = c.index.ensures ∙ get_or_default order c.args.at v u c.requires.within ∙ sym e in
    subst (λ (w : Choice). 0 < length (get_or (map (λ r. r.items) c.as_slice.result.now) w.shops [])) same (subst (λ rs. 0 < length (get_or (map (λ r. r.items) rs) v.shops [])) (sym c.as_slice.ensures.value) here))

pub returns-clause-rows : goal.returns-clause-rows
returns-clause-rows g c =
    let b = c.args.here.now in
    let order = b.base.now.order.items in
    let v : Choice = c.index.result.now in
    let choice : IsChoice b.family.now b.site.0 v = subst (IsChoice b.family.now b.site.0) (sym c.index.ensures) (c.requires.here.base.order.choices c.args.at v c.requires.within) in
    let items = b.base.now.shops.items in
    let stocks = length-map items (λ (v : ShopVector). v.stocks) in
    let count : length (shop_vectors b.family.now b.site.0) ≡ c.len.result = omega (arith, c.len.ensures, b.base.now.shops.ok.0, stocks, ap length c.requires.here.base.stocks) in
    let rows = c.clear_rows.new.rows.items in
    let row = c.put_row.new.row in
    let made = set rows v.shops row in
    let inside : v.shops < length rows = omega (arith, count, choice.place, c.in_ok-clear_rows.ensures.long) in
    let empty : AreKept b (map (λ r. r.items) rows) = none_kept b (map (λ r. r.items) rows) (λ k l. c.in_ok-clear_rows.ensures.empty k (omega (arith, l, count))) in
    let kept : AreKept b (map (λ r. r.items) made) = kept_put (λ r. r.items) rows made v.shops row refl inside b empty c.in_ok-put_row.ensures in
    kept

pub returns-clause-kept : goal.returns-clause-kept
returns-clause-kept g c =
    let b = c.args.here.now in
    let order = b.base.now.order.items in
    let v : Choice = c.index.result.now in
    let choice : IsChoice b.family.now b.site.0 v = subst (IsChoice b.family.now b.site.0) (sym c.index.ensures) (c.requires.here.base.order.choices c.args.at v c.requires.within) in
    let items = b.base.now.shops.items in
    let stocks = length-map items (λ (v : ShopVector). v.stocks) in
    let count : length (shop_vectors b.family.now b.site.0) ≡ c.len.result = omega (arith, c.len.ensures, b.base.now.shops.ok.0, stocks, ap length c.requires.here.base.stocks) in
    let rows = c.clear_rows.new.rows.items in
    let row = c.put_row.new.row in
    let made = set rows v.shops row in
    let inside : v.shops < length rows = omega (arith, count, choice.place, c.in_ok-clear_rows.ensures.long) in
    let long = c.in_ok-put_row.ensures.long in
    let here : 0 < length (get_or (map (λ r. r.items) made) v.shops []) =
    subst (λ (r : List Ends). 0 < length r) (sym (put_at (λ r. r.items) rows made v.shops row refl inside)) (omega (arith, long)) in
    λ u e. (
    let same : v ≡ u = c.index.ensures ∙ get_or_default order c.args.at v u c.requires.within ∙ sym e in
    subst (λ (w : Choice). 0 < length (get_or (map (λ r. r.items) made) w.shops [])) same (here))
