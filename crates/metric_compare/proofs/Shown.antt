-- A comparison shows what it says, and can be printed.
use Rattle.std.proofs.Common.{◌≡◌, ℕ, ◌-◌, ◌<◌, ◌≤◌, ◌+◌, ◌*◌, ◌/◌, ◌%◌, ◌^◌, true, List, length, get_or, map, refl, sym, ap, ap₂, ◌∙◌, subst, arith}
use Rattle.std.specs.List.{range_with_len}
use Rattle.std.proofs.lemmas.List.{get_or-map, length-map}
use Rattle.std.proofs.lemmas.List.FromFn.{get_or-map-range_with_len, length-map-range_with_len, length-range_with_len}
use Rattle.std.proofs.Math.Nat.{div-lt_iff_lt-mul}
use Rattle.std.proofs.lemmas.Nat.{div-add-mod', div-mul-add, mod-mul-add, mod_below}
use Rattle.list_laws.proofs.Public.{all_of, each_in_range, each_map, each_that_passes, few_that_pass}
use Rattle.fixed_interval.specs.Ends.{Ends, ends_exact}
use Rattle.spares_input.specs.Rows.{is_line}
use Rattle.spares_input.specs.Frames.{part_at, site_at}
use Rattle.spares_input.specs.Pairs.{pair_place, part_of_place, site_of_place}
use Rattle.spares_input.specs.Cases.{CaseRows, frame_rows, pair_count}
use Rattle.spares_input.specs.Stocks.{StockList}
use Rattle.fleet_model.specs.Rows.{bases, line_units, weight}
use Rattle.family_items.specs.Encloses.{CanEvaluate}
use Rattle.family_items.specs.Encloses as evaluated
use Rattle.family_items.specs.Inputs.{IsLine}
use Rattle.family_items.proofs.Public.{item_in, item_small, evaluable, family_in, weight_most}
use Rattle.case_figures.specs.Spans.{ends, places}
use Rattle.case_figures.specs.Figures.{all_items, item_at_place, named}
use Rattle.case_figures.specs.declared.figures.ItemLine.{ItemLine}
use Rattle.case_figures.proofs.Public.{item_pair, pair_within, total_at_in, sum_most, evaluated_as, figures_fit}
use Rattle.metric_compare.specs.declared.report.CompareItem.{CompareItem}
use Rattle.metric_compare.specs.Profile.{poisson_family_total_of, poisson_of, poisson_total_of, poisson_weighed}
use Rattle.metric_compare.specs.Report.{comparison_of, compared, compared_at}
use Rattle.metric_compare.specs.Shows.{ShowsComparison, ShowsCompared, no_compared}
use Rattle.metric_compare.specs.Fits.{ComparedFits, FitsComparison}
use Rattle.metric_compare.proofs.Adding.{pair_small, times_small}
use Rattle.metric_compare.proofs.Enclosed.{pair_in, total_in}

module _ (c : CaseRows) (s : StockList) (can : CanEvaluate 48 c s) where
  at : (p k : ℕ) → p < length c.parts → k < length c.sites → get_or (comparison_of c s).items (pair_place (length c.sites) p k) no_compared ≡ compared c s.list p k
  at p k lp lk =
      get_or-map-range_with_len (compared_at c s.list) 0 (pair_count (frame_rows c)) (pair_place (length c.sites) p k) (pair_place (length c.sites) p k) no_compared
      (pair_within c p k lp lk) (omega arith)
      ∙ ap₂ (compared c s.list) (div-mul-add p (length c.sites) k lk) (mod-mul-add p (length c.sites) k lk)

  -- the comparison of a case has a line for each pair, by part and then by site, and both totals
  pub shown : ShowsComparison c s (comparison_of c s)
  shown =
      let sound = evaluable 48 c s can in
      let least = can.scale.0 in
      record {
        item_count = length-map-range_with_len (compared_at c s.list) 0 (pair_count (frame_rows c));
        items_in = λ p k lp lk. subst (λ (x : CompareItem). ShowsCompared c s.list p k x) (sym (at p k lp lk)) (record {
          part_is = refl;
          site_is = refl;
          stock_is = refl;
          backorders_in = (item_in 48 c s.list least sound p k lp lk).backorders_in;
          poisson_in = pair_in 48 c s.list least sound p k lp lk;
        });
        total_in = λ n deep. total_at_in 48 c s.list n (λ l lp e. (family_in 48 c s l least sound (record { is_part = lp; no_parent = e })).total_in n deep);
        poisson_total_in = total_in 48 c s.list least sound;
      }

  -- ---- what can be printed

  pair_fits : (p k : ℕ) → p < length c.parts → k < length c.sites → ComparedFits (compared c s.list p k)
  pair_fits p k lp lk =
      let sound = evaluable 48 c s can in
      record {
        backorders = (let most = (item_small 48 c s.list can.scale.0 sound p k lp lk).backorders_most in omega (arith, most));
        poisson = (let most = pair_small c s.list sound p k lp lk in omega (arith, most));
      }

  some_sites : 0 < length c.sites
  some_sites = omega (arith, can.valid.frame.fewest_sites)

  place_fits : (i : ℕ) → i < pair_count (frame_rows c) → ComparedFits (compared_at c s.list i)
  place_fits i h = pair_fits (i / length c.sites) (i % length c.sites) ((div-lt_iff_lt-mul some_sites).1 h) (mod_below i (length c.sites) some_sites)

  family_most : (l : ℕ) → l < length c.parts → is_line (part_at c.parts l) ≡ true → (poisson_family_total_of 48 c s.list l).hi ≤ 384000 * 2 ^ 48
  family_most l lp e =
      let sound = evaluable 48 c s can in
      let line : IsLine c l = record { is_part = lp; no_parent = e } in
      let few = weight_most c l can.valid line in
      let sum = sum_most (ends_exact 48 0) (25600 * 2 ^ 48) (map (poisson_weighed 48 c s.list l) (bases c))
      (each_map (λ (x : Ends). x.hi ≤ 25600 * 2 ^ 48) (poisson_weighed 48 c s.list l) (bases c)
      (each_in_range (λ j. (poisson_weighed 48 c s.list l j).hi ≤ 25600 * 2 ^ 48) (length c.sites - 1) 1
      (λ j a b. times_small (poisson_of 48 c s.list l j) (weight c l) (pair_small c s.list sound l j lp (omega (arith, b))) few))) in
      let count = length-map (bases c) (poisson_weighed 48 c s.list l) ∙ length-range_with_len 1 (length c.sites - 1) in
      omega (arith, sum, count, can.valid.frame.most_sites)

  total_most : (poisson_total_of 48 c s.list).hi ≤ 768000000 * 2 ^ 48
  total_most =
      let few = few_that_pass (λ p. is_line (part_at c.parts p)) (length c.parts) 0 in
      let count = length-map (line_units c) (poisson_family_total_of 48 c s.list) in
      let sum = sum_most (ends_exact 48 0) (384000 * 2 ^ 48) (map (poisson_family_total_of 48 c s.list) (line_units c))
      (each_map (λ (x : Ends). x.hi ≤ 384000 * 2 ^ 48) (poisson_family_total_of 48 c s.list) (line_units c)
      (each_that_passes (λ l. (poisson_family_total_of 48 c s.list l).hi ≤ 384000 * 2 ^ 48) (λ p. is_line (part_at c.parts p)) (length c.parts) 0
      (λ l h e. family_most l (omega arith) e))) in
      omega (arith, sum, few, count, can.valid.frame.most_parts)

  -- every interval of the comparison can be printed
  pub fits : FitsComparison (comparison_of c s)
  fits = record {
    items = all_of ComparedFits (map (compared_at c s.list) (range_with_len 0 (pair_count (frame_rows c))))
        (each_map ComparedFits (compared_at c s.list) (range_with_len 0 (pair_count (frame_rows c)))
        (each_in_range (λ i. ComparedFits (compared_at c s.list i)) (pair_count (frame_rows c)) 0 (λ i a l. place_fits i (omega arith))));
    total = (figures_fit 48 c s refl can (evaluated_as 48 c s can)).total;
    poisson_total = (let most = total_most in omega (arith, most));
  }

-- ---- the lines, one by one

-- the line found at a place of the figures is that of the item there
pub line_is : (c : CaseRows) (s : List ℕ) (i : ℕ) (lines : List ItemLine) (d y : ItemLine) → lines ≡ map (named 48 c) (all_items 48 c s) → i < pair_count (frame_rows c)
    → y ≡ get_or lines i d → y ≡ named 48 c (item_at_place 48 c s i)
line_is c s i lines d y e h hy =
    hy ∙ ap (λ (xs : List ItemLine). get_or xs i d) e
    ∙ get_or-map (named 48 c) (all_items 48 c s) i (evaluated.no_item 48) d (omega (arith, h, length-map-range_with_len (item_at_place 48 c s) 0 (pair_count (frame_rows c))))
    ∙ ap (named 48 c) (get_or-map-range_with_len (item_at_place 48 c s) 0 (pair_count (frame_rows c)) i i (evaluated.no_item 48) h (omega arith))

-- names, stock and the two columns of a pair make its line of the comparison
pub row_is : (c : CaseRows) (s : List ℕ) (i : ℕ) (line : ItemLine) (b q : Ends) → line ≡ named 48 c (item_at_place 48 c s i) → b ≡ ends line.backorders
    → q ≡ poisson_of 48 c s (part_of_place (length c.sites) i).0 (site_of_place (length c.sites) i).0
    → record { part = line.part; site = line.site; stock = line.stock; backorders = b; poisson = q } ≡ compared_at c s i
row_is c s i line b q e hb hq =
    let pair = item_pair 48 c s (part_of_place (length c.sites) i).0 (site_of_place (length c.sites) i).0 in
    let part = ap (λ (x : ItemLine). x.part) e ∙ ap (λ j. (part_at c.parts j).name) pair.part_is in
    let site = ap (λ (x : ItemLine). x.site) e ∙ ap (λ j. (site_at c.sites j).name) pair.site_is in
    let stocked = ap (λ (x : ItemLine). x.stock) e ∙ pair.stock_is in
    let back = hb ∙ ap (λ (x : ItemLine). ends x.backorders) e in
    λ t. record { part = part t; site = site t; stock = stocked t; backorders = back t; poisson = hq t }

-- the backorders of an item line have 48 binary places
pub span_places : (c : CaseRows) (s : List ℕ) (i : ℕ) (line : ItemLine) → line ≡ named 48 c (item_at_place 48 c s i) → places line.backorders ≡ 48
span_places c s i line e = ap (λ (x : ItemLine). places x.backorders) e

-- there is an item line for each pair
pub lines_length : (c : CaseRows) (s : List ℕ) (lines : List ItemLine) → lines ≡ map (named 48 c) (all_items 48 c s) → length lines ≡ pair_count (frame_rows c)
lines_length c s lines e =
    ap (λ (xs : List ItemLine). length xs) e ∙ length-map (all_items 48 c s) (named 48 c) ∙ length-map-range_with_len (item_at_place 48 c s) 0 (pair_count (frame_rows c))

-- the pair at a place
pub record HasPlace (c : CaseRows) (i : ℕ) : Type 0 where
  pub part : (part_of_place (length c.sites) i).0 < length c.parts
  pub site : (site_of_place (length c.sites) i).0 < length c.sites
  pub is : i ≡ (part_of_place (length c.sites) i).0 * length c.sites + (site_of_place (length c.sites) i).0

below : (i m n : ℕ) → 0 < n → i < m * n → i / n < m
below i m n some h = (div-lt_iff_lt-mul {k = n} {x = i} {y = m} some).1 h

-- a place below the number of pairs is that of a part and a site of the case
pub place_at : (c : CaseRows) (i : ℕ) → 0 < length c.sites → i < pair_count (frame_rows c) → HasPlace c i
place_at c i some h = record {
  part = below i (length c.parts) (length c.sites) some h;
  site = mod_below i (length c.sites) some;
  is = sym (div-add-mod' i (length c.sites));
}
