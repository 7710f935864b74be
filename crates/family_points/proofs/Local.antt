-- What a family has depends on its own parts' rates alone, in a case of given sites and parts.
use Rattle.std.proofs.Common.{◌≡◌, ◌≢◌, ℕ, zero, suc, ◌+◌, ◌-◌, ◌*◌, ◌^◌, ◌<◌, List, length, map, sum_by, Option, Some, None, is_none, true, refl, sym, ap, ap₂, ◌∙◌, subst, arith, get_or-set_other, unwrap_or}
use Rattle.std.specs.List.{AllByRecursion}
use Rattle.std.specs.Option.{option_and_then}
use Rattle.std.proofs.lemmas.Nat.{same_from_place}
use Rattle.list_laws.proofs.Public.{all_follow, count_each, each_both, map_each, same_sum_range}
use Rattle.fixed_interval.specs.Ends.{ends_exact}
use Rattle.depot_pipeline.specs.declared.Feed.{Feed}
use Rattle.depot_pipeline.specs.Profile.{depot_line_ends, depot_shop_ends}
use Rattle.base_pipeline.specs.Profile.{base_line_ends, base_shop_ends}
use Rattle.spares_input.specs.declared.rows.SiteRow.{SiteRow}
use Rattle.spares_input.specs.declared.rows.PartRow.{PartRow}
use Rattle.spares_input.specs.declared.rows.RateRow.{RateRow}
use Rattle.spares_input.specs.Rows.{no_rate}
use Rattle.spares_input.specs.Frames.{line_of, part_at, part_names, place_of, site_at}
use Rattle.spares_input.specs.Cases.{CaseRows, frame_rows, rate_at, IsCase, IsRateOf}
use Rattle.spares_input.specs.Edits.{with_rate}
use Rattle.fleet_model.specs.Rows.{bases, per_system, shop_units, stock, systems, weight}
use Rattle.fleet_model.specs.Pairs.{by_pair}
use Rattle.fleet_model.specs.Fleet.{family}
use Rattle.fleet_model.specs.Units.{demand_00, demand_0j, demand_i0, demand_ij, days_at, direct_units_00, direct_units_0j, direct_units_i0, direct_units_ij, needed_i0, sent_0j, sent_ij, zero_stock_units_00, zero_stock_units_0j, zero_stock_units_ij}
use Rattle.demand_rates.specs.declared.kinds.PairRates.{PairRates}
use Rattle.demand_rates.specs.Rates.{pair_rates, rates_of_pair, share_ratio}
use Rattle.family_items.specs.declared.item.Item.{Item}
use Rattle.family_items.specs.Profile.{base_line, base_shop, depot_feed, depot_line, depot_shop, feed_of, delay_of, item_of, pipeline_from, share_from, stocked}
use Rattle.family_items.specs.Inputs.{IsLine, IsShop}
use Rattle.family_items.proofs.Public.{shops_all, added_same}
use Rattle.family_points.specs.Vectors.{stocks_with, vectors}
use Rattle.family_points.specs.Points.{ScoreEnds, added_cost, points_within, scored, scored_total}
use Rattle.family_points.specs.Local.{home_of, HaveOneFamily, SameFamily, SameRates}

module _ (sites : List SiteRow) (parts : List PartRow) (ra rb : List RateRow) (some : 0 < length sites) where
  abbrev one : CaseRows
  one = record { sites = sites; parts = parts; rates = ra }

  abbrev two : CaseRows
  two = record { sites = sites; parts = parts; rates = rb }

  abbrev Same : ℕ → Type 0
  Same p = SameRates one two p

  sum_bases : (f g : ℕ → ℕ) → ((j : ℕ) → j < length sites → f j ≡ g j) → sum_by f (bases one) ≡ sum_by g (bases one)
  sum_bases f g h = same_sum_range f g (length sites - 1) 1 (λ j l. h j (omega arith))

  -- ---- the demands

  sent_0j_same : (l j : ℕ) → j < length sites → Same l → sent_0j one l j ≡ sent_0j two l j
  sent_0j_same l j lj h = ap (λ (r : RateRow). r.demand * (10000 - r.repair_here)) (h j lj)

  demand_00_same : (l : ℕ) → Same l → demand_00 one l ≡ demand_00 two l
  demand_00_same l h = sum_bases (sent_0j one l) (sent_0j two l) (λ j lj. sent_0j_same l j lj h)

  demand_ij_same : (l i j : ℕ) → j < length sites → Same l → Same i → demand_ij one l i j ≡ demand_ij two l i j
  demand_ij_same l i j lj h g = ap₂ (λ (r q : RateRow). r.demand * r.repair_here * q.share) (h j lj) (g j lj)

  sent_ij_same : (l i j : ℕ) → j < length sites → Same l → Same i → sent_ij one l i j ≡ sent_ij two l i j
  sent_ij_same l i j lj h g = ap₂ (λ (m : ℕ) (q : RateRow). m * (10000 - q.repair_here)) (demand_ij_same l i j lj h g) (g j lj)

  needed_i0_same : (l i : ℕ) → Same l → Same i → needed_i0 one l i ≡ needed_i0 two l i
  needed_i0_same l i h g = ap₂ (λ (m : ℕ) (q : RateRow). m * q.share) (demand_00_same l h) (g 0 some)

  demand_i0_same : (l i : ℕ) → Same l → Same i → demand_i0 one l i ≡ demand_i0 two l i
  demand_i0_same l i h g =
      ap₂ (λ a b. a + b * 10000) (sum_bases (sent_ij one l i) (sent_ij two l i) (λ j lj. sent_ij_same l i j lj h g)) (needed_i0_same l i h g)

  -- ---- the direct parts and the zero-stock means

  days_at_same : (p j : ℕ) → j < length sites → Same p → days_at one p j ≡ days_at two p j
  days_at_same p j lj h =
      ap (λ (r : RateRow). (10000 - r.repair_here) * (site_at sites j).ship + r.repair_here * r.repair_days) (h j lj)

  direct_i0_same : (l i : ℕ) → Same l → Same i → direct_units_i0 one l i ≡ direct_units_i0 two l i
  direct_i0_same l i h g = ap₂ (λ (m : ℕ) (q : RateRow). m * q.repair_days) (demand_i0_same l i h g) (g 0 some)

  direct_00_same : (l : ℕ) → Same l → direct_units_00 one l ≡ direct_units_00 two l
  direct_00_same l h = ap₂ (λ (m : ℕ) (r : RateRow). m * r.repair_days * 100000000) (demand_00_same l h) (h 0 some)

  direct_ij_same : (l i j : ℕ) → j < length sites → Same l → Same i → direct_units_ij one l i j ≡ direct_units_ij two l i j
  direct_ij_same l i j lj h g = ap₂ (λ a b. a * b) (demand_ij_same l i j lj h g) (days_at_same i j lj g)

  direct_0j_same : (l j : ℕ) → j < length sites → Same l → direct_units_0j one l j ≡ direct_units_0j two l j
  direct_0j_same l j lj h = ap₂ (λ (r : RateRow) (m : ℕ). r.demand * m * 100000000) (h j lj) (days_at_same l j lj h)

  zero_stock_00_same : (l : ℕ) → Same l → AllByRecursion Same (shop_units one l) → zero_stock_units_00 one l ≡ zero_stock_units_00 two l
  zero_stock_00_same l h all =
      ap₂ (λ a b. a + b) (direct_00_same l h)
      (count_each (shop_units one l) _ _ (all_follow Same _ (shop_units one l)
      (λ i g. ap₂ (λ (m : ℕ) (q : RateRow). m * q.repair_days * 10000) (needed_i0_same l i h g) (g 0 some)) all))

  zero_stock_ij_same : (l i j : ℕ) → j < length sites → Same l → Same i → zero_stock_units_ij one l i j ≡ zero_stock_units_ij two l i j
  zero_stock_ij_same l i j lj h g =
      ap₂ (λ a b. a + b) (direct_ij_same l i j lj h g)
      (ap₂ (λ (m : ℕ) (q : RateRow). m * q.repair_days) (sent_ij_same l i j lj h g) (g 0 some))

  zero_stock_0j_same : (l j : ℕ) → j < length sites → Same l → AllByRecursion Same (shop_units one l)
      → zero_stock_units_0j one l j ≡ zero_stock_units_0j two l j
  zero_stock_0j_same l j lj h all =
      let waits = count_each (shop_units one l) (λ i. (rate_at one i 0).share * (rate_at one i 0).repair_days) (λ i. (rate_at two i 0).share * (rate_at two i 0).repair_days)
      (all_follow Same _ (shop_units one l) (λ i g. ap (λ (q : RateRow). q.share * q.repair_days) (g 0 some)) all) in
      let shops = count_each (shop_units one l) (λ i. zero_stock_units_ij one l i j) (λ i. zero_stock_units_ij two l i j)
      (all_follow Same _ (shop_units one l) (λ i g. zero_stock_ij_same l i j lj h g) all) in
      let days : (rate_at one l 0).repair_days ≡ (rate_at two l 0).repair_days = ap (λ (r : RateRow). r.repair_days) (h 0 some) in
      ap₂ (λ a b. a + b)
      (ap₂ (λ a b. a + b) (direct_0j_same l j lj h)
      (ap₂ (λ a b. a * b * 10000) (sent_0j_same l j lj h) (ap₂ (λ a b. a * 10000 + b) days waits)))
      shops

  -- ---- the rates of each pair

  abbrev SamePair : Option ℕ → ℕ → ℕ → Type 0
  SamePair o p k = rates_of_pair one o p k ≡ rates_of_pair two o p k

  depot_shop_pair : (l i : ℕ) → Same l → Same i → SamePair (Some l) i 0
  depot_shop_pair l i h g =
      let m = demand_i0_same l i h g in
      let n = needed_i0_same l i h g in
      let d = direct_i0_same l i h g in
      λ t. record {
        demand = record { num = m t; den = 10 ^ 16 };
        share = share_ratio (n t * 10000) (m t);
        direct = d t;
        zero_stock = d t;
      }

  depot_line_pair : (l : ℕ) → Same l → AllByRecursion Same (shop_units one l) → SamePair None l 0
  depot_line_pair l h all =
      let m = demand_00_same l h in
      let d = direct_00_same l h in
      let z = zero_stock_00_same l h all in
      λ t. record {
        demand = record { num = m t; den = 10 ^ 8 };
        share = share_ratio 1 1;
        direct = d t;
        zero_stock = z t;
      }

  base_shop_pair : (l i j : ℕ) → suc j < length sites → Same l → Same i → SamePair (Some l) i (suc j)
  base_shop_pair l i j lj h g =
      let m = demand_ij_same l i (suc j) lj h g in
      let n = sent_ij_same l i (suc j) lj h g in
      let b = demand_i0_same l i h g in
      let d = direct_ij_same l i (suc j) lj h g in
      let z = zero_stock_ij_same l i (suc j) lj h g in
      λ t. record {
        demand = record { num = m t; den = 10 ^ 12 };
        share = share_ratio (n t) (b t);
        direct = d t;
        zero_stock = z t;
      }

  base_line_pair : (l j : ℕ) → suc j < length sites → Same l → AllByRecursion Same (shop_units one l) → SamePair None l (suc j)
  base_line_pair l j lj h all =
      let m : demand_0j one l (suc j) ≡ demand_0j two l (suc j) = ap (λ (r : RateRow). r.demand) (h (suc j) lj) in
      let n = sent_0j_same l (suc j) lj h in
      let b = demand_00_same l h in
      let d = direct_0j_same l (suc j) lj h in
      let z = zero_stock_0j_same l (suc j) lj h all in
      λ t. record {
        demand = record { num = m t; den = 10 ^ 4 };
        share = share_ratio (n t) (b t);
        direct = d t;
        zero_stock = z t;
      }

  shop_pair : (l i k : ℕ) → k < length sites → Same l → Same i → SamePair (Some l) i k
  shop_pair l i zero lk h g = depot_shop_pair l i h g
  shop_pair l i (suc j) lk h g = base_shop_pair l i j lk h g

  line_pair : (l k : ℕ) → k < length sites → Same l → AllByRecursion Same (shop_units one l) → SamePair None l k
  line_pair l zero lk h all = depot_line_pair l h all
  line_pair l (suc j) lk h all = base_line_pair l j lk h all

  -- ---- the parts of a family

  abbrev Alike : ℕ → Type 0
  Alike p = (k : ℕ) → k < length sites → pair_rates one p k ≡ pair_rates two p k

  shop_alike : (l i : ℕ) → line_of parts i ≡ Some l → Same l → Same i → Alike i
  shop_alike l i owner h g k lk = subst (λ o. SamePair o i k) (sym owner) (shop_pair l i k lk h g)

  line_alike : (l : ℕ) → line_of parts l ≡ None → Same l → AllByRecursion Same (shop_units one l) → Alike l
  line_alike l none h all k lk = subst (λ o. SamePair o l k) (sym none) (line_pair l k lk h all)

  pub family_alike : (l : ℕ) → line_of parts l ≡ None → AllByRecursion (λ i. line_of parts i ≡ Some l) (shop_units one l)
      → AllByRecursion Same (family one l) → AllByRecursion Alike (family one l)
  family_alike l none owners h =
      (line_alike l none h.0 h.1, each_both (λ i. line_of parts i ≡ Some l) Same Alike (shop_units one l) (λ i o g. shop_alike l i o h.0 g) owners h.1)

  -- ---- items, from the rates of the pairs

  module _ (f : ℕ) (s : List ℕ) where
    depot_shop_same : (i : ℕ) → Alike i → depot_shop f one s i ≡ depot_shop f two s i
    unfolding depot_shop
    depot_shop_same i h =
        ap (λ (r : PairRates). stocked f (pipeline_from f i 0 r (stock one s i 0))
        (depot_shop_ends f (pipeline_from f i 0 r (stock one s i 0)).direct (pipeline_from f i 0 r (stock one s i 0)).cap)) (h 0 some)

    depot_feed_same : (i : ℕ) → Alike i → depot_feed f one s i ≡ depot_feed f two s i
    depot_feed_same i h = ap₂ (λ (r : PairRates) (x : Item f). feed_of f (share_from f r) x) (h 0 some) (depot_shop_same i h)

    depot_line_same : (l : ℕ) → Alike l → AllByRecursion Alike (shop_units one l) → depot_line f one s l ≡ depot_line f two s l
    unfolding depot_line
    depot_line_same l h all =
        ap₂ (λ (r : PairRates) (feeds : List (Feed f)). stocked f (pipeline_from f l 0 r (stock one s l 0))
        (depot_line_ends f (pipeline_from f l 0 r (stock one s l 0)).direct (pipeline_from f l 0 r (stock one s l 0)).cap feeds)) (h 0 some)
        (map_each (depot_feed f one s) (depot_feed f two s) (shop_units one l) (all_follow Alike _ (shop_units one l) depot_feed_same all))

    base_shop_same : (i j : ℕ) → j < length sites → Alike i → base_shop f one s i j ≡ base_shop f two s i j
    unfolding base_shop
    base_shop_same i j lj h =
        ap₂ (λ (r : PairRates) (x : Item f). stocked f (pipeline_from f i j r (stock one s i j))
        (base_shop_ends f (pipeline_from f i j r (stock one s i j)).direct (pipeline_from f i j r (stock one s i j)).cap (feed_of f (share_from f r) x)))
        (h j lj) (depot_shop_same i h)

    base_line_same : (l j : ℕ) → j < length sites → Alike l → AllByRecursion Alike (shop_units one l) → base_line f one s l j ≡ base_line f two s l j
    unfolding base_line
    base_line_same l j lj h all =
        let r = h j lj in
        let x = depot_line_same l h all in
        let helds = map_each (λ i. delay_of f (base_shop f one s i j)) (λ i. delay_of f (base_shop f two s i j)) (shop_units one l)
        (all_follow Alike _ (shop_units one l) (λ i a. ap (λ (y : Item f). delay_of f y) (base_shop_same i j lj a)) all) in
        λ t. stocked f (pipeline_from f l j (r t) (stock one s l j))
        (base_line_ends f (pipeline_from f l j (r t) (stock one s l j)).direct (pipeline_from f l j (r t) (stock one s l j)).cap
        (feed_of f (share_from f (r t)) (x t)) (helds t))

    -- of part p, whose line unit is o
    abbrev item_by : CaseRows → Option ℕ → ℕ → ℕ → Item f
    item_by c o p k = by_pair (λ l i. depot_shop f c s i) (depot_line f c s) (λ l i j. base_shop f c s i j) (base_line f c s) o p k

    shop_item : (l i k : ℕ) → k < length sites → Alike i → item_by one (Some l) i k ≡ item_by two (Some l) i k
    shop_item l i zero lk h = depot_shop_same i h
    shop_item l i (suc j) lk h = base_shop_same i (suc j) lk h

    line_item : (l k : ℕ) → k < length sites → Alike l → AllByRecursion Alike (shop_units one l) → item_by one None l k ≡ item_by two None l k
    line_item l zero lk h all = depot_line_same l h all
    line_item l (suc j) lk h all = base_line_same l (suc j) lk h all

    pub family_items : (l : ℕ) → line_of parts l ≡ None → AllByRecursion (λ i. line_of parts i ≡ Some l) (shop_units one l)
        → AllByRecursion Alike (family one l)
        → AllByRecursion (λ p. (k : ℕ) → k < length sites → item_of f one s p k ≡ item_of f two s p k) (family one l)
    family_items l none owners h = (
      λ k lk. subst (λ o. item_by one o l k ≡ item_by two o l k) (sym none) (line_item l k lk h.0 h.1),
      each_both (λ i. line_of parts i ≡ Some l) Alike _ (shop_units one l)
          (λ i o a k lk. subst (λ x. item_by one x i k ≡ item_by two x i k) (sym o) (shop_item l i k lk a)) owners h.1,
    )

  -- ---- points

  pub points_same : (l : ℕ) (ends : ScoreEnds) (held low high : List ℕ)
      → ((s : List ℕ) (k : ℕ) → k < length sites → item_of 48 one s l k ≡ item_of 48 two s l k)
      → points_within one l ends held low high ≡ points_within two l ends held low high
  points_same l ends held low high h =
      let total : (s : List ℕ) → scored_total one l ends s ≡ scored_total two l ends s =
      λ s. added_same (ends_exact 48 0) (λ j. scored one l ends s (j + 1)) (λ j. scored two l ends s (j + 1)) (length sites - 1)
      (λ j lj. ap (λ (x : Item 48). ends (systems one (j + 1)) (per_system one l) (weight one l) x.backorders) (h s (j + 1) (omega arith))) in
      λ t. map (λ v. record {
        cost = added_cost one l held v;
        lo = (total (stocks_with one l v) t).lo;
        hi = (total (stocks_with one l v) t).hi;
        stocks = v;
      }) (vectors low high)

-- ---- any two cases with the same family

owner_none : (c : CaseRows) (o : Option (List ℕ)) → is_none o ≡ true → option_and_then (λ name. place_of name (part_names c.parts)) o ≡ None
owner_none c None h = refl
owner_none c (Some name) h = cc

-- a line unit belongs to no other part
pub line_owner : (c : CaseRows) (l : ℕ) → IsLine c l → line_of c.parts l ≡ None
line_owner c l line = owner_none c (part_at c.parts l).parent line.no_parent

-- two cases with the same sites, parts and rates of a family's parts have its rates, items and points in common
pub local : (c d : CaseRows) (l : ℕ) → IsCase c → IsLine c l → SameFamily c d l → HaveOneFamily c d l
local c d l valid line same =
    let some : 0 < length c.sites = omega (arith, valid.frame.fewest_sites) in
    let e : CaseRows = record { sites = c.sites; parts = c.parts; rates = d.rates } in
    let is : e ≡ d = λ t. record { sites = same.sites t; parts = same.parts t; rates = d.rates } in
    let none = line_owner c l line in
    let owners = all_follow (IsShop c l) (λ i. line_of c.parts i ≡ Some l) (shop_units c l) (λ i (x : IsShop c l i). x.line_is) (shops_all c l valid line) in
    let rates : AllByRecursion (SameRates c e) (family c l) = subst (λ (x : CaseRows). AllByRecursion (SameRates c x) (family c l)) (sym is) same.rates in
    let pairs = family_alike c.sites c.parts c.rates d.rates some l none owners rates in
    let items = λ (f : ℕ) (s : List ℕ). family_items c.sites c.parts c.rates d.rates some f s l none owners pairs in
    subst (λ (x : CaseRows). HaveOneFamily c x l) is (record {
      pairs = pairs;
      items = items;
      points = λ ends held low high. points_same c.sites c.parts c.rates d.rates some l ends held low high (λ s. (items 48 s).0);
    })

-- ---- one row changed

elsewhere : (c : CaseRows) (r : RateRow) (p : ℕ) → IsRateOf (frame_rows c) r → p ≢ r.part.0 → SameRates c (with_rate c r) p
elsewhere c r p row other k lk =
    let n = length c.sites in
    let apart : p * n + k ≢ r.part.0 * n + r.site.0 = λ e. other (same_from_place p k r.part.0 r.site.0 n lk row.site e).0 in
    sym (get_or-set_other c.rates (r.part.0 * n + r.site.0) (p * n + k) r no_rate apart)

-- a row of rates in the place of its pair's leaves the rates of every other family as they were
pub changed : (c : CaseRows) (r : RateRow) (l : ℕ) → IsCase c → IsLine c l → IsRateOf (frame_rows c) r → home_of c r.part.0 ≢ l
    → SameFamily c (with_rate c r) l
changed c r l valid line row away =
    let at_home : (p : ℕ) → home_of c p ≡ l → p ≢ r.part.0 = λ p h e. away (ap (home_of c) (sym e) ∙ h) in
    record {
      sites = refl;
      parts = refl;
      rates = (
        elsewhere c r l row (at_home l (ap (λ o. unwrap_or o l) (line_owner c l line))),
        all_follow (IsShop c l) (SameRates c (with_rate c r)) (shop_units c l)
            (λ i (x : IsShop c l i). elsewhere c r i row (at_home i (ap (λ o. unwrap_or o i) x.line_is))) (shops_all c l valid line),
      );
    }
