-- What the families of a case give: its pairs, its bases and its total.
use Rattle.std.proofs.Common.{◌≡◌, ℕ, ◌-◌, ◌*◌, ◌/◌, ◌%◌, ◌^◌, ◌<◌, ◌≤◌, true, List, length, get_or, map, sym, ap, ◌∙◌, subst, arith}
use Rattle.std.specs.Prelude.{All, flat_map}
use Rattle.std.specs.List.{fold, range_with_len, AllByRecursion}
use Rattle.std.proofs.Math.Nat.{div-lt_iff_lt-mul}
use Rattle.std.proofs.lemmas.List.{get_or_append_left, length-append, length-map}
use Rattle.std.proofs.lemmas.List.FromFn.{get_or-map-range_with_len, length-map-range_with_len}
use Rattle.std.proofs.lemmas.Simd.{map-map}
use Rattle.list_laws.proofs.Public.{all_of, each_in_range, each_map, each_that_passes, few_that_pass, map_each}
use Rattle.fixed_interval.specs.Ends.{Ends, ends_exact, ends_add}
use Rattle.spares_input.specs.Rows.{is_line}
use Rattle.spares_input.specs.Frames.{part_at, part_names, site_at, site_names, is_shop_of}
use Rattle.spares_input.specs.Cases.{CaseRows, IsCase, frame_rows, pair_count}
use Rattle.spares_input.specs.Stocks.{StockList}
use Rattle.fleet_model.specs.Rows.{all_sites, bases, line_units, shop_units, systems, per_system}
use Rattle.fleet_model.specs.Fleet.{family}
use Rattle.availability.specs.declared.Weighted.{Weighted}
use Rattle.availability.specs.Profile.{factor_ends, base_ends, fleet_ends}
use Rattle.family_items.specs.declared.item.Item.{Item}
use Rattle.family_items.specs.declared.item.FamilyResult.{FamilyResult}
use Rattle.family_items.specs.Encloses.{IsSmallItem, no_item}
use Rattle.family_items.specs.Profile.{item_of, part_items, family_of, families_of}
use Rattle.family_items.specs.Profile as evaluated
use Rattle.case_figures.specs.declared.figures.BaseLine.{BaseLine}
use Rattle.case_figures.specs.declared.figures.Figures.{Figures}
use Rattle.case_figures.specs.Spans.{span_of}
use Rattle.case_figures.specs.Figures.{item_at_place, all_items, factor_at, weighted_at, availability_line, figures_of}
use Rattle.case_figures.specs.declared.compact.CompactItem.{CompactItem}
use Rattle.case_figures.specs.Compact.{IsNamedPair, compact_of, line_under}
use Rattle.case_figures.specs.Gathering.{IsItemOf, IsFamilyOf, compact_by_pair, factor_from, weighted_from, base_line_from}
use Rattle.case_figures.proofs.Covering.{item_pair, placed_all}
use Rattle.case_figures.proofs.CompactLines.{compact_items, compact_pairs, lines_named}
use Rattle.case_figures.proofs.Each.{each_flat}

module _ (f : ℕ) (c : CaseRows) (t : StockList) where
  abbrev item : ℕ → ℕ → Item f
  item p k = item_of f c t.list p k

  -- no item and no family's total is large
  pub record AreSmall : Type 0 where
    pub items_most : (p k : ℕ) → p < length c.parts → k < length c.sites → IsSmallItem f (item p k)
    pub totals_most : (l : ℕ) → l < length c.parts → is_line (part_at c.parts l) ≡ true → (evaluated.total_of f c t.list l).hi ≤ 384000 * 2 ^ f

  is_item : AreSmall → (p k : ℕ) → p < length c.parts → k < length c.sites → IsItemOf f c (item p k)
  is_item m p k h l =
      let x = item_pair f c t.list p k in
      record { part = omega (arith, x.part_is, h); site = omega (arith, x.site_is, l); most = m.items_most p k h l }

  are_items : AreSmall → (p : ℕ) → p < length c.parts → AllByRecursion (IsItemOf f c) (part_items f c t.list p)
  are_items m p h =
      each_map (IsItemOf f c) (item p) (all_sites c)
      (each_in_range (λ k. IsItemOf f c (item p k)) (length c.sites) 0 (λ k a l. is_item m p k h (omega arith)))

  family_items : AreSmall → (l : ℕ) → l < length c.parts → All (IsItemOf f c) (family_of f c l t).items
  family_items m l h =
      all_of (IsItemOf f c) (flat_map (part_items f c t.list) (family c l))
      (each_flat (IsItemOf f c) (part_items f c t.list) (family c l) (
        are_items m l h,
        each_that_passes (λ p. AllByRecursion (IsItemOf f c) (part_items f c t.list p)) (λ p. is_shop_of (part_at c.parts l) (part_at c.parts p))
            (length c.parts) 0 (λ p q e. are_items m p (omega arith)),
      ))

  -- the items of the line unit stand first
  line_item : (l k : ℕ) → k < length c.sites → get_or (family_of f c l t).items k (no_item f) ≡ item l k
  line_item l k h =
      get_or_append_left (part_items f c t.list l) (flat_map (part_items f c t.list) (shop_units c l)) (no_item f) k
      (omega (arith, h, length-map-range_with_len (item l) 0 (length c.sites)))
      ∙ get_or-map-range_with_len (item l) 0 (length c.sites) k k (no_item f) h (omega arith)

  is_family : AreSmall → (l : ℕ) → l < length c.parts → is_line (part_at c.parts l) ≡ true → IsFamilyOf f c (family_of f c l t)
  is_family m l h e = record {
    items = family_items m l h;
    enough = omega (
      arith,
      length-append (part_items f c t.list l) (flat_map (part_items f c t.list) (shop_units c l)),
      length-map-range_with_len (item l) 0 (length c.sites),
    );
    lines = λ k q.
        ap (λ (x : Item f). is_line (part_at c.parts x.part.0)) (line_item l k q)
        ∙ ap (λ p. is_line (part_at c.parts p)) (item_pair f c t.list l k).part_is
        ∙ e;
    total_most = m.totals_most l h e;
  }

  -- each item of all pairs is one
  are_all_items : AreSmall → IsCase c → AllByRecursion (IsItemOf f c) (all_items f c t.list)
  are_all_items m v =
      let some : 0 < length c.sites = omega (arith, v.frame.fewest_sites) in
      each_map (IsItemOf f c) (item_at_place f c t.list) (range_with_len 0 (pair_count (frame_rows c)))
      (each_in_range (λ i. IsItemOf f c (item_at_place f c t.list i)) (pair_count (frame_rows c)) 0
      (λ i a l. is_item m (i / length c.sites) (i % length c.sites) ((div-lt_iff_lt-mul some).1 (omega arith)) (omega (arith, some))))

  -- each family of the case has its line unit's items first, and small numbers alone
  pub are_families : AreSmall → All (IsFamilyOf f c) (families_of f c t)
  are_families m =
      all_of (IsFamilyOf f c) (families_of f c t)
      (each_map (IsFamilyOf f c) (λ l. family_of f c l t) (line_units c)
      (each_that_passes (λ l. IsFamilyOf f c (family_of f c l t)) (λ p. is_line (part_at c.parts p)) (length c.parts) 0
      (λ l h e. is_family m l (omega arith) e)))

  -- a case has at most 2000 families
  pub few_families : IsCase c → length (families_of f c t) ≤ 2000
  few_families v =
      omega (
        arith,
        length-map (line_units c) (λ l. family_of f c l t),
        few_that_pass (λ p. is_line (part_at c.parts p)) (length c.parts) 0,
        v.frame.most_parts,
      )

  -- ---- what they give

  factor_is : (l j : ℕ) → j < length c.sites → factor_from f c j (family_of f c l t) ≡ factor_at f c t.list j l
  factor_is l j h =
      ap (λ (x : Item f). factor_ends f x.backorders (systems c j) (per_system c x.part.0)) (line_item l j h)
      ∙ ap (λ p. factor_ends f (item l j).backorders (systems c j) (per_system c p)) (item_pair f c t.list l j).part_is

  factors_are : (j : ℕ) → j < length c.sites → map (factor_from f c j) (families_of f c t) ≡ map (factor_at f c t.list j) (line_units c)
  factors_are j h =
      map-map (factor_from f c j) (λ l. family_of f c l t) (line_units c)
      ∙ map_each (λ l. factor_from f c j (family_of f c l t)) (factor_at f c t.list j) (line_units c)
      (each_that_passes (λ l. factor_from f c j (family_of f c l t) ≡ factor_at f c t.list j l) (λ p. is_line (part_at c.parts p)) (length c.parts) 0
      (λ l q e. factor_is l j h))

  weighted_is : (j : ℕ) → j < length c.sites → weighted_from f c (families_of f c t) j ≡ weighted_at f c t.list j
  weighted_is j h =
      ap (λ (xs : List Ends). let base : Weighted f = record { systems = systems c j; value = base_ends f xs } in base) (factors_are j h)

  weighted_are : map (weighted_from f c (families_of f c t)) (bases c) ≡ map (weighted_at f c t.list) (bases c)
  weighted_are =
      map_each (weighted_from f c (families_of f c t)) (weighted_at f c t.list) (bases c)
      (each_in_range (λ j. weighted_from f c (families_of f c t) j ≡ weighted_at f c t.list j) (length c.sites - 1) 1 (λ j a l. weighted_is j (omega arith)))

  line_is : (j : ℕ) → 1 ≤ j → j < length c.sites → base_line_from f c (map (weighted_at f c t.list) (bases c)) j ≡ availability_line f c t.list j
  line_is j h l =
      ap (λ (base : Weighted f). let line : BaseLine = record { site = (site_at c.sites j).name; availability = span_of f base.value } in line)
      (get_or-map-range_with_len (weighted_at f c t.list) 1 (length c.sites - 1) (j - 1) j (record { systems = 0; value = ends_exact f 0 })
      (omega arith) (omega arith))

  lines_are : map (base_line_from f c (map (weighted_at f c t.list) (bases c))) (bases c) ≡ map (availability_line f c t.list) (bases c)
  lines_are =
      map_each (base_line_from f c (map (weighted_at f c t.list) (bases c))) (availability_line f c t.list) (bases c)
      (each_in_range (λ j. base_line_from f c (map (weighted_at f c t.list) (bases c)) j ≡ availability_line f c t.list j) (length c.sites - 1) 1
      (λ j a l. line_is j a (omega arith)))

  totals_are : map (λ (r : FamilyResult f). r.total) (families_of f c t) ≡ map (evaluated.total_of f c t.list) (line_units c)
  totals_are = map-map (λ (r : FamilyResult f). r.total) (λ l. family_of f c l t) (line_units c)

  -- ---- the figures

  -- what the steps have given, from families and the items and bases that were made of them
  pub record AreMade (families : List (FamilyResult f)) (compact : List CompactItem) (weighted : List (Weighted f)) (fleet total : Ends) (cost : ℕ) (figures : Figures) : Type 0 where
    pub families_are : families ≡ families_of f c t
    pub compact_are : compact ≡ compact_by_pair c families
    pub weighted_from_families : weighted ≡ map (weighted_from f c families) (bases c)
    pub fleet_is : fleet ≡ fleet_ends f weighted
    pub total_is : total ≡ fold ends_add (ends_exact f 0) (map (λ (r : FamilyResult f). r.total) families)
    pub cost_is : figures.cost ≡ cost
    pub item_lines : figures.items ≡ map (line_under (part_names c.parts) (site_names c.sites) f) compact
    pub base_lines : figures.bases ≡ map (base_line_from f c weighted) (bases c)
    pub fleet_span : figures.fleet ≡ span_of f fleet
    pub total_span : figures.total ≡ span_of f total

  compact_made : IsCase c → (families : List (FamilyResult f)) (compact : List CompactItem) → families ≡ families_of f c t → compact ≡ compact_by_pair c families
      → compact ≡ map compact_of (all_items f c t.list)
  compact_made v families compact h e =
      e ∙ ap (compact_by_pair c) h ∙ compact_items f c (families_of f c t) ∙ ap (map compact_of) (placed_all f c t.list v t.sites)

  -- the compact items have names
  pub are_compact : AreSmall → IsCase c → (families : List (FamilyResult f)) (compact : List CompactItem) → families ≡ families_of f c t
      → compact ≡ compact_by_pair c families → All (IsNamedPair (part_names c.parts) (site_names c.sites)) compact
  are_compact m v families compact h e =
      subst (λ (xs : List CompactItem). All (IsNamedPair (part_names c.parts) (site_names c.sites)) xs) (sym (compact_made v families compact h e))
      (compact_pairs f c (all_items f c t.list) (all_of (IsItemOf f c) (all_items f c t.list) (are_all_items m v)))

  weighted_made : (families : List (FamilyResult f)) (weighted : List (Weighted f)) → families ≡ families_of f c t
      → weighted ≡ map (weighted_from f c families) (bases c) → weighted ≡ map (weighted_at f c t.list) (bases c)
  weighted_made families weighted h e = e ∙ ap (λ (rs : List (FamilyResult f)). map (weighted_from f c rs) (bases c)) h ∙ weighted_are

  -- figures made of the families step by step are those of the case at these stocks, with a cost of their own
  pub made : AreSmall → IsCase c → (families : List (FamilyResult f)) (compact : List CompactItem) (weighted : List (Weighted f)) (fleet total : Ends) (cost : ℕ) (figures : Figures)
      → AreMade families compact weighted fleet total cost figures → figures ≡ record (figures_of f c t) { cost = cost }
  made m v families compact weighted fleet total cost figures a =
      let under = line_under (part_names c.parts) (site_names c.sites) f in
      let items_eq = a.item_lines ∙ ap (map under) (compact_made v families compact a.families_are a.compact_are) ∙ lines_named f c (all_items f c t.list) (are_all_items m v) in
      let weighted_eq = weighted_made families weighted a.families_are a.weighted_from_families in
      let bases_eq = a.base_lines ∙ ap (λ (ws : List (Weighted f)). map (base_line_from f c ws) (bases c)) weighted_eq ∙ lines_are in
      let fleet_eq = a.fleet_span ∙ ap (span_of f) (a.fleet_is ∙ ap (fleet_ends f) weighted_eq) in
      let totals_eq = ap (map (λ (r : FamilyResult f). r.total)) a.families_are ∙ totals_are in
      let total_eq = a.total_span ∙ ap (span_of f) (a.total_is ∙ ap (fold ends_add (ends_exact f 0)) totals_eq) in
      λ i. record { cost = a.cost_is i; items = items_eq i; bases = bases_eq i; fleet = fleet_eq i; total = total_eq i }
