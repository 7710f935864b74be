-- The figures enclose the model's values, and can be printed.
use Rattle.std.proofs.Common.{None, ◌≡◌, ℕ, ◌-◌, ◌*◌, ◌/◌, ◌%◌, ◌^◌, ◌<◌, ◌≤◌, true, length, get_or, map, inl, inr, refl, sym, ap, ◌∙◌, subst, arith}
use Rattle.std.specs.Prelude.{◌⊎◌, ◌==◌, ◌||◌}
use Rattle.std.specs.List.{range_with_len}
use Rattle.std.proofs.Math.Nat.{div-lt_iff_lt-mul}
use Rattle.std.proofs.lemmas.Bool.{eqb-true, or_cases}
use Rattle.std.proofs.lemmas.Nat.{mul-le}
use Rattle.std.proofs.lemmas.List.{get_or-map, length-map}
use Rattle.std.proofs.lemmas.List.FromFn.{get_or-map-range_with_len, length-map-range_with_len}
use Rattle.list_laws.proofs.Public.{all_of, each_in_range, each_map, each_that_passes, few_that_pass}
use Rattle.exact_model.specs.Fraction.{Fraction, Encloses}
use Rattle.fixed_interval.specs.Ends.{Ends, InScale, ends_exact}
use Rattle.spares_input.specs.Rows.{is_line}
use Rattle.spares_input.specs.Frames.{part_at, site_at}
use Rattle.spares_input.specs.Pairs.{pair_place}
use Rattle.spares_input.specs.Cases.{CaseRows, IsCase, frame_rows, pair_count}
use Rattle.spares_input.specs.Stocks.{AreStocksOf, StockList}
use Rattle.demand_rates.specs.Limits.{rate_fault_of}
use Rattle.fleet_model.specs.Rows.{bases, line_units}
use Rattle.fleet_model.specs.Fleet.{availability, fleet, family_total, case_total}
use Rattle.fleet_model.specs.Laws.{IsBase}
use Rattle.fleet_model.proofs.Public.{cost_holds}
use Rattle.availability.specs.declared.Weighted.{Weighted}
use Rattle.family_items.specs.declared.item.Item.{Item}
use Rattle.family_items.specs.Encloses.{CanEvaluate, EnclosesItem, IsSmallItem, no_item}
use Rattle.family_items.specs.Profile.{item_of}
use Rattle.family_items.specs.Profile as evaluated
use Rattle.family_items.proofs.Public.{item_in, item_small, evaluable, family_in, family_small}
use Rattle.case_figures.specs.Fits.{SpanFits, ItemFits, BaseFits, FitsPrint}
use Rattle.case_figures.specs.Spans.{places, ends, span_of}
use Rattle.fixed_interval.specs.Widths.{IsWidth}
use Rattle.fixed_interval.proofs.Public.{unit_most}
use Rattle.case_figures.specs.Figures.{named, item_at_place, all_items, factor_at, availability_at, availability_line, weighted_at, fleet_of, case_total_of, figures_of}
use Rattle.case_figures.specs.Shows.{ShowsSpan, ShowsItem, ShowsBase, ShowsFigures, no_item_line, no_base_line}
use Rattle.case_figures.proofs.Covering.{item_pair, at_place, pair_within}
use Rattle.case_figures.proofs.Enclosing.{availability_in, fleet_at_in, fleet_has_systems, total_at_in}
use Rattle.case_figures.proofs.Limits.{factor_most, base_most, fleet_most, sum_most}

-- ---- widths and spans

widths : (f : ℕ) → IsWidth f → (f ≡ 32) ⊎ ((f ≡ 48) ⊎ (f ≡ 52))
widths f h = elim (or_cases ((f == 32) || (f == 48)) (f == 52) h) [
  | inl e ↦ elim (or_cases (f == 32) (f == 48) e) [ inl a ↦ inl (eqb-true f 32 a) | inr b ↦ inr (inl (eqb-true f 48 b)) ]
  | inr c ↦ inr (inr (eqb-true f 52 c))
]

pub record IsSpanOf (f : ℕ) (x : Ends) : Type 0 where
  pub places_are : places (span_of f x) ≡ f
  pub ends_are : ends (span_of f x) ≡ x

span_of_one : (f : ℕ) (x : Ends) → (f ≡ 32) ⊎ ((f ≡ 48) ⊎ (f ≡ 52)) → IsSpanOf f x
span_of_one f x (inl e) = subst (λ g. IsSpanOf g x) (sym e) (record { places_are = refl; ends_are = refl })
span_of_one f x (inr (inl e)) = subst (λ g. IsSpanOf g x) (sym e) (record { places_are = refl; ends_are = refl })
span_of_one f x (inr (inr e)) = subst (λ g. IsSpanOf g x) (sym e) (record { places_are = refl; ends_are = refl })

span_is : (f : ℕ) (x : Ends) → IsWidth f → IsSpanOf f x
span_is f x h = span_of_one f x (widths f h)

shown : (f : ℕ) (q : ℕ → Fraction) (x : Ends) → IsWidth f → Encloses f x.lo x.hi q → ShowsSpan f q (span_of f x)
shown f q x h e =
    let s = span_is f x h in
    record { places_are = s.places_are; encloses = subst (λ (y : Ends). Encloses f y.lo y.hi q) (sym s.ends_are) e }

places_of_one : (f : ℕ) → (f ≡ 32) ⊎ ((f ≡ 48) ⊎ (f ≡ 52)) → InScale f
places_of_one f (inl e) = (omega (arith, e), omega (arith, e))
places_of_one f (inr (inl e)) = (omega (arith, e), omega (arith, e))
places_of_one f (inr (inr e)) = (omega (arith, e), omega (arith, e))

-- each of the three widths is one that intervals can have
pub width_in_scale : (f : ℕ) → IsWidth f → InScale f
width_in_scale f h = places_of_one f (widths f h)

-- at most so many wholes
span_fits : (f : ℕ) (x : Ends) (n : ℕ) → IsWidth f → x.hi ≤ n * 2 ^ f → n < 2 ^ 34 → SpanFits (span_of f x)
span_fits f x n h m k =
    let two = unit_most f (width_in_scale f h).1 in
    let top : n * 2 ^ f ≤ n * 2 ^ 52 = mul-le n (2 ^ f) n (2 ^ 52) (omega arith) two in
    subst (λ (y : Ends). y.hi < 2 ^ 86) (sym (span_is f x h).ends_are) (omega (arith, m, top, k))

-- ---- what an evaluation gives

pub record IsEvaluated (f : ℕ) (c : CaseRows) (t : StockList) : Type 0 where
  pub items_in : (p k : ℕ) → p < length c.parts → k < length c.sites → EnclosesItem f c t.list p k (item_of f c t.list p k)
  pub items_most : (p k : ℕ) → p < length c.parts → k < length c.sites → IsSmallItem f (item_of f c t.list p k)
  pub totals_in : (l : ℕ) → l < length c.parts → is_line (part_at c.parts l) ≡ true
      → Encloses f (evaluated.total_of f c t.list l).lo (evaluated.total_of f c t.list l).hi (λ n. family_total c t.list n l)
  pub totals_most : (l : ℕ) → l < length c.parts → is_line (part_at c.parts l) ≡ true → (evaluated.total_of f c t.list l).hi ≤ 384000 * 2 ^ f

module _ (f : ℕ) (c : CaseRows) (t : StockList) (has : IsWidth f) (can : CanEvaluate f c t) (is : IsEvaluated f c t) where
  abbrev item : ℕ → ℕ → Item f
  item p k = item_of f c t.list p k

  -- ---- the model's values

  item_shown : (p k : ℕ) → p < length c.parts → k < length c.sites → ShowsItem f c t.list p k (named f c (item p k))
  item_shown p k h l =
      let pair = item_pair f c t.list p k in
      let x = is.items_in p k h l in
      record {
        part_is = ap (λ i. (part_at c.parts i).name) pair.part_is;
        site_is = ap (λ i. (site_at c.sites i).name) pair.site_is;
        stock_is = pair.stock_is;
        mean_in = shown f _ (item p k).mean has x.mean_in;
        variance_in = shown f _ (item p k).variance has x.variance_in;
        backorders_in = shown f _ (item p k).backorders has x.backorders_in;
        spread_in = shown f _ (item p k).spread has x.spread_in;
      }

  line_at : (p k : ℕ) → p < length c.parts → k < length c.sites
      → get_or (map (named f c) (all_items f c t.list)) (pair_place (length c.sites) p k) no_item_line ≡ named f c (item p k)
  line_at p k h l =
      let count = pair_count (frame_rows c) in
      let i = pair_place (length c.sites) p k in
      let within : i < count = pair_within c p k h l in
      get_or-map (named f c) (all_items f c t.list) i (no_item f) no_item_line (omega (arith, within, length-map-range_with_len (item_at_place f c t.list) 0 count))
      ∙ ap (named f c) (get_or-map-range_with_len (item_at_place f c t.list) 0 count i i (no_item f) within (omega arith) ∙ at_place f c t.list p k l)

  base_shown : (j : ℕ) → IsBase c j → ShowsBase f c t.list j (availability_line f c t.list j)
  base_shown j b = record {
    site_is = refl;
    availability_in = shown f (λ n. availability c t.list n j) (availability_at f c t.list j) has
        (λ n d. availability_in f c t.list n j can.valid b (λ l h e. (is.items_in l j h b.1).backorders_in n d));
  }

  base_at_line : (j : ℕ) → IsBase c j → get_or (map (availability_line f c t.list) (bases c)) (j - 1) no_base_line ≡ availability_line f c t.list j
  base_at_line j b =
      get_or-map-range_with_len (availability_line f c t.list) 1 (length c.sites - 1) (j - 1) j no_base_line (omega (arith, b.0, b.1)) (omega (arith, b.0))

  -- the figures show the case at these stocks: its cost, and an interval around each of the model's numbers
  pub figures_shown : ShowsFigures f c t (figures_of f c t)
  figures_shown = record {
    cost_is = sym (cost_holds c t can.are_stocks.is_for);
    item_count = length-map (all_items f c t.list) (named f c) ∙ length-map-range_with_len (item_at_place f c t.list) 0 (pair_count (frame_rows c));
    items_in = λ p k h l. subst (ShowsItem f c t.list p k) (sym (line_at p k h l)) (item_shown p k h l);
    base_count = length-map-range_with_len (availability_line f c t.list) 1 (length c.sites - 1);
    bases_in = λ j b. subst (ShowsBase f c t.list j) (sym (base_at_line j b)) (base_shown j b);
    fleet_in = shown f (fleet c t.list) (fleet_of f c t.list) has
        (λ n d. fleet_at_in f c t.list n can.valid
        (λ j b. availability_in f c t.list n j can.valid b (λ l h e. (is.items_in l j h b.1).backorders_in n d)));
    total_in = shown f (case_total c t.list) (case_total_of f c t.list) has (λ n d. total_at_in f c t.list n (λ l h e. is.totals_in l h e n d));
  }

  -- ---- what can be printed

  item_fits : (p k : ℕ) → p < length c.parts → k < length c.sites → ItemFits (named f c (item p k))
  item_fits p k h l =
      let x = is.items_most p k h l in
      record {
        mean = span_fits f (item p k).mean 256 has x.mean_most (omega arith);
        variance = span_fits f (item p k).variance 256 has x.variance_most (omega arith);
        backorders = span_fits f (item p k).backorders 256 has x.backorders_most (omega arith);
        spread = span_fits f (item p k).spread 256 has x.spread_most (omega arith);
      }

  some_sites : 0 < length c.sites
  some_sites = omega (arith, can.valid.frame.fewest_sites)

  place_fits : (i : ℕ) → i < pair_count (frame_rows c) → ItemFits (named f c (item_at_place f c t.list i))
  place_fits i h = item_fits (i / length c.sites) (i % length c.sites) ((div-lt_iff_lt-mul some_sites).1 h) (omega (arith, some_sites))

  availability_most : (j : ℕ) → (availability_at f c t.list j).hi ≤ 2 ^ f
  availability_most j =
      base_most f (map (factor_at f c t.list j) (line_units c))
      (each_map (λ (x : Ends). x.hi ≤ 2 ^ f) (factor_at f c t.list j) (line_units c)
      (each_that_passes (λ l. (factor_at f c t.list j l).hi ≤ 2 ^ f) (λ p. is_line (part_at c.parts p)) (length c.parts) 0
      (λ l h e. factor_most f (item l j).backorders _ _)))

  fleet_of_most : (fleet_of f c t.list).hi ≤ 2 ^ f
  fleet_of_most =
      fleet_most f (map (weighted_at f c t.list) (bases c)) (fleet_has_systems f c t.list can.valid)
      (each_map (λ (x : Weighted f). x.value.hi ≤ 2 ^ f) (weighted_at f c t.list) (bases c)
      (each_in_range (λ j. (availability_at f c t.list j).hi ≤ 2 ^ f) (length c.sites - 1) 1 (λ j a l. availability_most j)))

  total_most : (case_total_of f c t.list).hi ≤ 768000000 * 2 ^ f
  total_most =
      let few = few_that_pass (λ p. is_line (part_at c.parts p)) (length c.parts) 0 in
      let count = length-map (line_units c) (evaluated.total_of f c t.list) in
      let sum = sum_most (ends_exact f 0) (384000 * 2 ^ f) (map (evaluated.total_of f c t.list) (line_units c))
      (each_map (λ (x : Ends). x.hi ≤ 384000 * 2 ^ f) (evaluated.total_of f c t.list) (line_units c)
      (each_that_passes (λ l. (evaluated.total_of f c t.list l).hi ≤ 384000 * 2 ^ f) (λ p. is_line (part_at c.parts p)) (length c.parts) 0
      (λ l h e. is.totals_most l (omega arith) e))) in
      let top = mul-le (length (map (evaluated.total_of f c t.list) (line_units c))) (384000 * 2 ^ f) 2000 (384000 * 2 ^ f)
      (omega (arith, few, count, can.valid.frame.most_parts)) (omega arith) in
      omega (arith, sum, top)

  -- every interval of the figures fits
  pub figures_fit : FitsPrint (figures_of f c t)
  figures_fit = record {
    items = all_of ItemFits (map (named f c) (all_items f c t.list))
        (each_map ItemFits (named f c) (all_items f c t.list)
        (each_map (λ (x : Item f). ItemFits (named f c x)) (item_at_place f c t.list) (range_with_len 0 (pair_count (frame_rows c)))
        (each_in_range (λ i. ItemFits (named f c (item_at_place f c t.list i))) (pair_count (frame_rows c)) 0 (λ i a l. place_fits i (omega arith)))));
    bases = all_of BaseFits (map (availability_line f c t.list) (bases c))
        (each_map BaseFits (availability_line f c t.list) (bases c)
        (each_in_range (λ j. BaseFits (availability_line f c t.list j)) (length c.sites - 1) 1
        (λ j a l. span_fits f (availability_at f c t.list j) 1 has (omega (arith, availability_most j)) (omega arith))));
    fleet = span_fits f (fleet_of f c t.list) 1 has (omega (arith, fleet_of_most)) (omega arith);
    total = span_fits f (case_total_of f c t.list) 768000000 has total_most (omega arith);
  }

-- what can be evaluated has items and totals that enclose the model, and are small
pub evaluated_as : (f : ℕ) (c : CaseRows) (t : StockList) → CanEvaluate f c t → IsEvaluated f c t
evaluated_as f c t h =
    let sound = evaluable f c t h in
    record {
      items_in = item_in f c t.list h.scale.0 sound;
      items_most = item_small f c t.list h.scale.0 sound;
      totals_in = λ l p e. (family_in f c t l h.scale.0 sound (record { is_part = p; no_parent = e })).total_in;
      totals_most = λ l p e. (family_small f c t l h.scale.0 sound (record { is_part = p; no_parent = e })).total_most;
    }

-- what an evaluation takes, from what is known of a case, its rates and its stocks
pub can_evaluate : (f : ℕ) (c : CaseRows) (t : StockList) → IsWidth f → IsCase c → rate_fault_of c ≡ None → AreStocksOf c t → CanEvaluate f c t
can_evaluate f c t h v a s = record { scale = width_in_scale f h; valid = v; no_fault = a; are_stocks = s }
