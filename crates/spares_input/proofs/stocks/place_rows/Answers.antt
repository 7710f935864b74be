use Rattle.std.proofs.Common.{◌≡◌, ◌≤◌, ℕ, ◌*◌, subst, arith, refl, sym, get_or, length, take, None, replicate, rules}
use Rattle.spares_input.specs.First.{first}
use Rattle.spares_input.specs.Rows.{no_stock}
use Rattle.spares_input.specs.Stocks.{stock_fault, stock_place}
use Rattle.std.proofs.lemmas.List.{take_all}
use Rattle.spares_input.specs.Building.{ArePlaced}
use Rattle.spares_input.proofs.CaseFacts.{places_fit}
use Rattle.spares_input.proofs.Firsts.{first_more, first_found}
use Rattle.spares_input.proofs.PlaceFacts.{kept_at, has_before, few_taken, placed_none, placed_more, taken_none, taken_more}
use Rattle.spares_input.proofs.StockFacts.{stock_fault_over, stock_fault_double, stock_fault_none}
use Rattle.spares_input.proofs.stocks.place_rows.Goals as goal

ended : (i n : ℕ) → n ≤ i → i ≤ n → i ≡ n
ended i n past within = omega (arith, past, within)

pub overflow_mul-parts : goal.overflow_mul-parts
overflow_mul-parts c =
    let few_parts : c.part_count-parts.result ≤ 2000 = rw c.part_count-parts.ensures.count c.part_count-parts.ensures.valid.frame.most_parts in
    let few_sites : c.site_count-sites.result ≤ 16 = rw c.site_count-sites.ensures.count c.site_count-sites.ensures.valid.frame.most_sites in
    places_fit c.part_count-parts.result c.site_count-sites.result few_parts few_sites

pub overflow_cast-result : goal.overflow_cast-result
overflow_cast-result c =
    let few_parts : c.part_count-parts.result ≤ 2000 = rw c.part_count-parts.ensures.count c.part_count-parts.ensures.valid.frame.most_parts in
    let few_sites : c.site_count-sites.result ≤ 16 = rw c.site_count-sites.ensures.count c.site_count-sites.ensures.valid.frame.most_sites in
    let inv = c.loop-k.invariant in
    let few = few_taken (stock_place c.site_count-sites.result) c.loop-k.places.items c.loop-k.k _ _ inv.taken inv.placed.whole few_parts few_sites in
    few.0

pub overflow_cast-result-then-is_some : goal.overflow_cast-result-then-is_some
overflow_cast-result-then-is_some c =
    let few_parts : c.part_count-parts.result ≤ 2000 = rw c.part_count-parts.ensures.count c.part_count-parts.ensures.valid.frame.most_parts in
    let few_sites : c.site_count-sites.result ≤ 16 = rw c.site_count-sites.ensures.count c.site_count-sites.ensures.valid.frame.most_sites in
    let inv = c.loop-k.invariant in
    let few = few_taken (stock_place c.site_count-sites.result) c.loop-k.places.items c.loop-k.k _ _ inv.taken inv.placed.whole few_parts few_sites in
    few.0

pub overflow_add-result : goal.overflow_add-result
overflow_add-result c =
    let few_parts : c.part_count-parts.result ≤ 2000 = rw c.part_count-parts.ensures.count c.part_count-parts.ensures.valid.frame.most_parts in
    let few_sites : c.site_count-sites.result ≤ 16 = rw c.site_count-sites.ensures.count c.site_count-sites.ensures.valid.frame.most_sites in
    let inv = c.loop-k.invariant in
    let few = few_taken (stock_place c.site_count-sites.result) c.loop-k.places.items c.loop-k.k _ _ inv.taken inv.placed.whole few_parts few_sites in
    few.1

pub overflow_add-result-then-is_some : goal.overflow_add-result-then-is_some
overflow_add-result-then-is_some c =
    let few_parts : c.part_count-parts.result ≤ 2000 = rw c.part_count-parts.ensures.count c.part_count-parts.ensures.valid.frame.most_parts in
    let few_sites : c.site_count-sites.result ≤ 16 = rw c.site_count-sites.ensures.count c.site_count-sites.ensures.valid.frame.most_sites in
    let inv = c.loop-k.invariant in
    let few = few_taken (stock_place c.site_count-sites.result) c.loop-k.places.items c.loop-k.k _ _ inv.taken inv.placed.whole few_parts few_sites in
    few.1

pub loop-k-init : goal.loop-k-init
unfolding first
loop-k-init c =
    let empty : c.in_ok-places.places.items ≡ replicate (c.part_count-parts.result * c.site_count-sites.result) None = search rules in
    record {
      fault = refl;
      placed = placed_none (stock_place c.site_count-sites.result) _ c.in_ok-places.places.items empty;
      taken = taken_none (stock_place c.site_count-sites.result) _ c.in_ok-places.places.items empty;
    }

pub limit-requires-clause-part : goal.limit-requires-clause-part
limit-requires-clause-part c = (c.requires c.loop-k.k no_stock c.loop-k-test.true).part

pub limit-requires-clause-site : goal.limit-requires-clause-site
limit-requires-clause-site c = (c.requires c.loop-k.k no_stock c.loop-k-test.true).site

pub pair_place-place-requires-clause-few_sites : goal.pair_place-place-requires-clause-few_sites
pair_place-place-requires-clause-few_sites c = rw c.site_count-sites.ensures.count c.site_count-sites.ensures.valid.frame.most_sites

pub pair_place-place-requires-clause-few_parts : goal.pair_place-place-requires-clause-few_parts
pair_place-place-requires-clause-few_parts c = rw c.part_count-parts.ensures.count c.part_count-parts.ensures.valid.frame.most_parts

pub pair_place-place-requires-clause-part : goal.pair_place-place-requires-clause-part
pair_place-place-requires-clause-part c = rw c.part_count-parts.ensures.count (c.requires c.loop-k.k no_stock c.loop-k-test.true).part

pub pair_place-place-requires-clause-site : goal.pair_place-place-requires-clause-site
pair_place-place-requires-clause-site c = rw c.site_count-sites.ensures.count (c.requires c.loop-k.k no_stock c.loop-k-test.true).site

pub returns-then-row-limit-clause-fault : goal.returns-then-row-limit-clause-fault
returns-then-row-limit-clause-fault c =
    let rows = c.args.rows.now in
    first_found (stock_fault c.args.case.now rows) c.loop-k.k (length rows) _ c.loop-k.invariant.fault
    (stock_fault_over c.args.case.now rows c.loop-k.k c.limit.result c.limit.ensures.limit c.if-row-limit.true) c.loop-k-test.true

pub returns-then-is_some-clause-fault : goal.returns-then-is_some-clause-fault
returns-then-is_some-clause-fault c =
    let inv = c.loop-k.invariant in
    let n = c.site_count-sites.result in
    let rows = c.args.rows.now in
    let kept = kept_at (stock_place n) _ (take c.loop-k.k rows) c.loop-k.places.items c.pair_place-place.result c.index.result.now inv.placed c.pair_place-place.ensures.within c.index.ensures in
    let before = has_before (stock_place n) rows c.loop-k.k no_stock (get_or rows c.loop-k.k no_stock) c.pair_place-place.result c.index.result.now _ refl c.pair_place-place.ensures.place kept (sym c.if-is_some.ensures) in
    first_found (stock_fault c.args.case.now rows) c.loop-k.k (length rows) _ inv.fault
    (stock_fault_double c.args.case.now rows c.loop-k.k c.limit.result n c.limit.ensures.limit c.if-row-limit.false c.site_count-sites.ensures.count before) c.loop-k-test.true

pub loop-k-preserved : goal.loop-k-preserved
loop-k-preserved c =
    let inv = c.loop-k.invariant in
    let n = c.site_count-sites.result in
    let rows = c.args.rows.now in
    let row = get_or rows c.loop-k.k no_stock in
    let p = c.pair_place-place.result in
    let o = c.index.result.now in
    let kept = kept_at (stock_place n) _ (take c.loop-k.k rows) c.loop-k.places.items p o inv.placed c.pair_place-place.ensures.within c.index.ensures in
    let new = sym c.if-is_some.ensures in
    let before = has_before (stock_place n) rows c.loop-k.k no_stock row p o _ refl c.pair_place-place.ensures.place kept new in
    record {
      fault = first_more (stock_fault c.args.case.now rows) c.loop-k.k inv.fault
          (stock_fault_none c.args.case.now rows c.loop-k.k c.limit.result n c.limit.ensures.limit c.if-row-limit.false c.site_count-sites.ensures.count before);
      placed = placed_more (stock_place n) _ rows c.loop-k.k no_stock row c.loop-k.places.items p o c.loop-k-test.true refl
          c.pair_place-place.ensures.place c.pair_place-place.ensures.within inv.placed kept new;
      taken = taken_more (stock_place n) c.loop-k.places.items c.loop-k.k p row o (rw inv.placed.whole c.pair_place-place.ensures.within) c.index.ensures new inv.taken;
    }

pub index-requires : goal.index-requires
index-requires c = rw (c.loop-k.places.ok.0, c.loop-k.invariant.placed.whole) c.pair_place-place.ensures.within

pub index_mut-requires : goal.index_mut-requires
index_mut-requires c = rw (c.loop-k.places.ok.0, c.loop-k.invariant.placed.whole) c.pair_place-place.ensures.within

pub returns-clause-fault : goal.returns-clause-fault
returns-clause-fault c =
    subst (λ n. first (stock_fault c.args.case.now c.args.rows.now) n ≡ None) (ended c.loop-k.k (length c.args.rows.now) c.loop-k-test.false c.loop-k.auto.k-end)
    c.loop-k.invariant.fault

pub returns-clause-placed : goal.returns-clause-placed
returns-clause-placed c =
    let placed = subst (λ rows. ArePlaced (stock_place c.site_count-sites.result) (c.part_count-parts.result * c.site_count-sites.result) rows c.loop-k.places.items)
    (take_all c.loop-k.k c.args.rows.now c.loop-k-test.false) c.loop-k.invariant.placed in
    rw (← c.site_count-sites.ensures.count, ← c.part_count-parts.ensures.count) placed
