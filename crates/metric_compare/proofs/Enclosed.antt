-- The backorders of each level enclose those of Poisson pipelines.
use Rattle.std.proofs.Common.{◌≡◌, ℕ, zero, suc, ◌-◌, ◌<◌, ◌≤◌, true, List, length, get_or, map, Option, Some, None, refl, sym, subst, arith, zero-lt-suc}
use Rattle.std.proofs.Math.Nat.{le_refl}
use Rattle.std.proofs.lemmas.List.{get_or-map, length-map}
use Rattle.list_laws.proofs.Public.{all_follow, each_in_range, passed}
use Rattle.exact_model.specs.Fraction.{Encloses, Fraction, whole, ◌≤ℚ◌, ◌+ℚ◌, ◌*ℚ◌}
use Rattle.exact_model.specs.Series.{ebo}
use Rattle.exact_model.proofs.Public.{contains_same, le_chain, le_self, turned, ebo_within as ebo_most}
use Rattle.fixed_interval.specs.Ends.{Ends, In, ends_add, ends_capped}
use Rattle.fixed_interval.proofs.Public.{add_encloses, capped_encloses, times_encloses}
use Rattle.depot_pipeline.specs.declared.Feed.{Feed}
use Rattle.depot_pipeline.specs.Exact.{FeedIn, IsAtMost}
use Rattle.depot_pipeline.specs.Profile.{added, feed_at, mean_part, no_feed}
use Rattle.depot_pipeline.proofs.Public.{added_in, mean_part_in}
use Rattle.base_pipeline.specs.declared.Held.{Held}
use Rattle.base_pipeline.specs.Profile.{delay_at}
use Rattle.spares_input.specs.Rows.{is_line}
use Rattle.spares_input.specs.Frames.{line_of, part_at}
use Rattle.spares_input.specs.Cases.{CaseRows}
use Rattle.fleet_model.specs.Rows.{bases, line_units, shop_units, stock, weight}
use Rattle.fleet_model.specs.Demand.{f_i0, f_ij, f_0j}
use Rattle.fleet_model.specs.ZeroStock.{direct_i0, direct_00, direct_ij, direct_0j, zero_stock_i0, zero_stock_00, zero_stock_ij, zero_stock_0j}
use Rattle.fleet_model.specs.Pairs.{by_pair}
use Rattle.fleet_model.specs.Laws.{IsBase, Reaches}
use Rattle.fleet_model.proofs.Public.{le_add, le_mul, le_of_same, sum_most, allocation_reaches}
use Rattle.fleet_model.proofs.Public.{mean_00 as zero_mean_mean_00, mean_0j as zero_mean_mean_0j, mean_ij as zero_mean_mean_ij}
use Rattle.demand_rates.proofs.Public.{no_line_there}
use Rattle.family_items.specs.Profile.{pipeline_of, share_of}
use Rattle.moment_table.specs.Inputs.{CanTable}
use Rattle.family_items.specs.Inputs.{IsLine, IsPipeline, IsShop, IsSound}
use Rattle.moment_table.proofs.Public.{table_encloses}
use Rattle.family_items.proofs.Public.{added_least, can_table, cap_in, pipeline_is, line_at, shop_at, sum_by_places, direct_level, share_level}
use Rattle.fleet_model.specs.Poisson.{mean_i0, mean_00, mean_ij, mean_0j, poisson, poisson_i0, poisson_00, poisson_ij, poisson_0j, poisson_family_total, poisson_total}
use Rattle.case_figures.proofs.Public.{sum_in}
use Rattle.metric_compare.specs.Profile.{backorders_at, poisson_at, poisson_base_line, poisson_base_shop, poisson_depot_feed, poisson_depot_line, poisson_depot_shop, fed, delay, poisson_family_total_of, poisson_of, poisson_total_of, poisson_weighed}

-- ---- what caps them

module _ (c : CaseRows) (s : List ℕ) (n : ℕ) (r : Reaches c s n) where
  most_ebo_there : (u : Fraction) (p k : ℕ) (most : Fraction) → u ≤ℚ most → ebo n u u (stock c s p k) ≤ℚ most
  most_ebo_there u p k most h = le_chain (ebo_most n u u (stock c s p k) (r p k)) h

  poisson_i0_most : (l i : ℕ) → poisson_i0 c s n l i ≤ℚ zero_stock_i0 c l i
  unfolding poisson_i0 mean_i0 zero_stock_i0
  poisson_i0_most l i = most_ebo_there (direct_i0 c l i) i 0 _ (le_self (direct_i0 c l i))

  mean_00_most : (l : ℕ) → mean_00 c s n l ≤ℚ zero_stock_00 c l
  unfolding mean_00
  mean_00_most l =
      le_chain (le_add (le_self (direct_00 c l)) (sum_most (shop_units c l) _ _ (λ i. le_mul (le_self (f_i0 c l i)) (poisson_i0_most l i))))
      (le_of_same (turned (zero_mean_mean_00 c l)))

  poisson_00_most : (l : ℕ) → poisson_00 c s n l ≤ℚ zero_stock_00 c l
  unfolding poisson_00
  poisson_00_most l = most_ebo_there (mean_00 c s n l) l 0 _ (mean_00_most l)

  mean_ij_most : (l i j : ℕ) → IsBase c j → mean_ij c s n l i j ≤ℚ zero_stock_ij c l i j
  unfolding mean_ij
  mean_ij_most l i j b =
      le_chain (le_add (le_self (direct_ij c l i j)) (le_mul (le_self (f_ij c l i j)) (poisson_i0_most l i)))
      (le_of_same (turned (zero_mean_mean_ij c l i j b)))

  poisson_ij_most : (l i j : ℕ) → IsBase c j → poisson_ij c s n l i j ≤ℚ zero_stock_ij c l i j
  unfolding poisson_ij
  poisson_ij_most l i j b = most_ebo_there (mean_ij c s n l i j) i j _ (mean_ij_most l i j b)

  mean_0j_most : (l j : ℕ) → IsBase c j → mean_0j c s n l j ≤ℚ zero_stock_0j c l j
  unfolding mean_0j
  mean_0j_most l j b =
      le_chain (le_add (le_add (le_self (direct_0j c l j)) (le_mul (le_self (f_0j c l j)) (poisson_00_most l)))
      (sum_most (shop_units c l) _ _ (λ i. poisson_ij_most l i j b)))
      (le_of_same (turned (zero_mean_mean_0j c l j b)))

-- ---- the ends

backorders_in : (f : ℕ) (m : Ends) (s : ℕ) → CanTable f m m → s ≤ 63 → (u : Fraction) → In f m u → (n : ℕ) → 1024 ≤ n
    → In f (poisson_at f m s) (ebo n u u s)
unfolding backorders_at
backorders_in f m s can few u a n deep = (table_encloses f m m s can few u u a a n deep).ebo

fed_in : (f : ℕ) (share x : Ends) (q e : Fraction) → In f share q → In f x e → FeedIn f (fed f share x) q e e
fed_in f share x q e h i = record { share = h; backorders = i; spread = i }

module _ (f : ℕ) (c : CaseRows) (s : List ℕ) (least : 24 ≤ f) (sound : IsSound c s) where
  reach : (n : ℕ) → 1024 ≤ n → Reaches c s n
  reach n deep = allocation_reaches c s n sound.valid sound.allocation (omega (arith, deep))

  pair : (p k : ℕ) → p < length c.parts → k < length c.sites → IsPipeline f (pipeline_of f c s p k)
  pair p k lp lk = pipeline_is f c s p k least sound lp lk

  some_sites : 0 < length c.sites
  some_sites = omega (arith, sound.valid.frame.fewest_sites)

  -- the mean m, before its cap, gives the backorders of the pair
  level : (o : Option ℕ) (p k n : ℕ) (m : Ends) (u : Fraction) → line_of c.parts p ≡ o → p < length c.parts → k < length c.sites → 1024 ≤ n
      → (pipeline_of f c s p k).direct.lo ≤ m.lo → In f m u → u ≤ℚ by_pair (zero_stock_i0 c) (zero_stock_00 c) (zero_stock_ij c) (zero_stock_0j c) o p k
      → In f (poisson_at f (ends_capped m (pipeline_of f c s p k).cap) (stock c s p k)) (ebo n u u (stock c s p k))
  level o p k n m u e lp lk deep lo inside most =
      let capped : IsAtMost f (pipeline_of f c s p k).cap u = cap_in f c p k u (sound.pairs p k lp lk)
      (subst (λ o. u ≤ℚ by_pair (zero_stock_i0 c) (zero_stock_00 c) (zero_stock_ij c) (zero_stock_0j c) o p k) (sym e) most) in
      backorders_in f (ends_capped m (pipeline_of f c s p k).cap) (stock c s p k) (can_table f (pipeline_of f c s p k) m m (pair p k lp lk) lo) (pair p k lp lk).stock_most
      u (capped_encloses f m (pipeline_of f c s p k).cap u capped inside) n deep

  -- ---- the shop unit at the depot

  in_i0 : (l i n : ℕ) → IsShop c l i → 1024 ≤ n → In f (poisson_depot_shop f c s i) (poisson_i0 c s n l i)
  unfolding poisson_depot_shop poisson_i0 mean_i0 zero_stock_i0
  in_i0 l i n shop deep =
      level (Some l) i 0 n (pipeline_of f c s i 0).direct (direct_i0 c l i) shop.line_is shop.is_part some_sites deep (le_refl (pipeline_of f c s i 0).direct.lo)
      (direct_level f c s least sound (Some l) i 0 shop.line_is shop.is_part some_sites) (le_self (direct_i0 c l i))

  -- ---- the line unit at the depot

  feeds_in : (l n k : ℕ) → IsLine c l → 1024 ≤ n → k < length (map (poisson_depot_feed f c s) (shop_units c l))
      → FeedIn f (feed_at (map (poisson_depot_feed f c s) (shop_units c l)) k) (f_i0 c l (get_or (shop_units c l) k 0))
      (poisson_i0 c s n l (get_or (shop_units c l) k 0)) (poisson_i0 c s n l (get_or (shop_units c l) k 0))
  feeds_in l n k line deep h =
      let w : k < length (shop_units c l) = omega (arith, h, length-map (shop_units c l) (poisson_depot_feed f c s)) in
      let i = get_or (shop_units c l) k 0 in
      let shop = shop_at c l k sound.valid line w in
      subst (λ (z : Feed f). FeedIn f z (f_i0 c l i) (poisson_i0 c s n l i) (poisson_i0 c s n l i))
      (sym (get_or-map (poisson_depot_feed f c s) (shop_units c l) k 0 (no_feed f) w))
      (fed_in f (share_of f c i 0) (poisson_depot_shop f c s i) (f_i0 c l i) _ (share_level f c s least sound (Some l) i 0 shop.line_is shop.is_part some_sites) (in_i0 l i n shop deep))

  in_00 : (l n : ℕ) → IsLine c l → 1024 ≤ n → In f (poisson_depot_line f c s l) (poisson_00 c s n l)
  unfolding poisson_depot_line poisson_00 mean_00
  in_00 l n line deep =
      let e = no_line_there c.parts l line.no_parent in
      let feeds = map (poisson_depot_feed f c s) (shop_units c l) in
      level None l 0 n (added (pipeline_of f c s l 0).direct (λ k. mean_part f (feed_at feeds k)) (length feeds)) (mean_00 c s n l) e line.is_part some_sites deep
      (added_least (pipeline_of f c s l 0).direct (λ k. mean_part f (feed_at feeds k)) (length feeds))
      (contains_same (sum_by_places (shop_units c l) (λ i. f_i0 c l i *ℚ poisson_i0 c s n l i) (direct_00 c l) _ (length-map (shop_units c l) (poisson_depot_feed f c s)))
      (added_in f (pipeline_of f c s l 0).direct _ (direct_00 c l) (λ k. f_i0 c l (get_or (shop_units c l) k 0) *ℚ poisson_i0 c s n l (get_or (shop_units c l) k 0)) _
      (direct_level f c s least sound None l 0 e line.is_part some_sites)
      (λ k h. mean_part_in f (feed_at feeds k) _ _ _ (feeds_in l n k line deep h))))
      (mean_00_most c s n (reach n deep) l)

  -- ---- the shop unit at base j + 1

  in_ij : (l i j n : ℕ) → IsShop c l i → suc j < length c.sites → 1024 ≤ n → In f (poisson_base_shop f c s i (suc j)) (poisson_ij c s n l i (suc j))
  unfolding poisson_base_shop poisson_ij mean_ij
  in_ij l i j n shop lj deep =
      let feed = fed f (share_of f c i (suc j)) (poisson_depot_shop f c s i) in
      let d : In f (pipeline_of f c s i (suc j)).direct (direct_ij c l i (suc j)) = direct_level f c s least sound (Some l) i (suc j) shop.line_is shop.is_part lj in
      let part = fed_in f (share_of f c i (suc j)) (poisson_depot_shop f c s i) (f_ij c l i (suc j)) (poisson_i0 c s n l i)
      (share_level f c s least sound (Some l) i (suc j) shop.line_is shop.is_part lj) (in_i0 l i n shop deep) in
      level (Some l) i (suc j) n (ends_add (pipeline_of f c s i (suc j)).direct (mean_part f feed)) (mean_ij c s n l i (suc j)) shop.line_is shop.is_part lj deep
      (omega arith)
      (add_encloses f (pipeline_of f c s i (suc j)).direct _ (direct_ij c l i (suc j)) (f_ij c l i (suc j) *ℚ poisson_i0 c s n l i) d (mean_part_in f _ _ _ _ part))
      (mean_ij_most c s n (reach n deep) l i (suc j) (zero-lt-suc j, lj))

  -- ---- the line unit at base j + 1

  delays_in : (l j n k : ℕ) → IsLine c l → suc j < length c.sites → 1024 ≤ n → k < length (map (λ i. delay f (poisson_base_shop f c s i (suc j))) (shop_units c l))
      → In f (delay_at (map (λ i. delay f (poisson_base_shop f c s i (suc j))) (shop_units c l)) k).backorders (poisson_ij c s n l (get_or (shop_units c l) k 0) (suc j))
  delays_in l j n k line lj deep h =
      let w : k < length (shop_units c l) = omega (arith, h, length-map (shop_units c l) (λ i. delay f (poisson_base_shop f c s i (suc j)))) in
      subst (λ (z : Held f). In f z.backorders (poisson_ij c s n l (get_or (shop_units c l) k 0) (suc j)))
      (sym (get_or-map (λ i. delay f (poisson_base_shop f c s i (suc j))) (shop_units c l) k 0 _ w))
      (in_ij l (get_or (shop_units c l) k 0) j n (shop_at c l k sound.valid line w) lj deep)

  in_0j : (l j n : ℕ) → IsLine c l → suc j < length c.sites → 1024 ≤ n → In f (poisson_base_line f c s l (suc j)) (poisson_0j c s n l (suc j))
  unfolding poisson_base_line poisson_0j mean_0j
  in_0j l j n line lj deep =
      let e = no_line_there c.parts l line.no_parent in
      let feed = fed f (share_of f c l (suc j)) (poisson_depot_line f c s l) in
      let shops = map (λ i. delay f (poisson_base_shop f c s i (suc j))) (shop_units c l) in
      let d = direct_level f c s least sound None l (suc j) e line.is_part lj in
      let part = fed_in f (share_of f c l (suc j)) (poisson_depot_line f c s l) (f_0j c l (suc j)) (poisson_00 c s n l) (share_level f c s least sound None l (suc j) e line.is_part lj) (in_00 l n line deep) in
      let first = add_encloses f (pipeline_of f c s l (suc j)).direct _ (direct_0j c l (suc j)) (f_0j c l (suc j) *ℚ poisson_00 c s n l) d (mean_part_in f _ _ _ _ part) in
      level None l (suc j) n (added (ends_add (pipeline_of f c s l (suc j)).direct (mean_part f feed)) (λ k. (delay_at shops k).backorders) (length shops)) (mean_0j c s n l (suc j))
      e line.is_part lj deep
      (omega (arith, added_least (ends_add (pipeline_of f c s l (suc j)).direct (mean_part f feed)) (λ k. (delay_at shops k).backorders) (length shops)))
      (contains_same (sum_by_places (shop_units c l) (λ i. poisson_ij c s n l i (suc j)) (direct_0j c l (suc j) +ℚ f_0j c l (suc j) *ℚ poisson_00 c s n l) _
      (length-map (shop_units c l) (λ i. delay f (poisson_base_shop f c s i (suc j)))))
      (added_in f _ _ (direct_0j c l (suc j) +ℚ f_0j c l (suc j) *ℚ poisson_00 c s n l) (λ k. poisson_ij c s n l (get_or (shop_units c l) k 0) (suc j)) _ first
      (λ k h. delays_in l j n k line lj deep h)))
      (mean_0j_most c s n (reach n deep) l (suc j) (zero-lt-suc j, lj))

  -- ---- by pair

  at_pair : (o : Option ℕ) (p k n : ℕ) → line_of c.parts p ≡ o → p < length c.parts → k < length c.sites → 1024 ≤ n
      → In f (by_pair (λ l i. poisson_depot_shop f c s i) (poisson_depot_line f c s) (λ l i j. poisson_base_shop f c s i j) (poisson_base_line f c s) o p k)
      (by_pair (poisson_i0 c s n) (poisson_00 c s n) (poisson_ij c s n) (poisson_0j c s n) o p k)
  at_pair (Some l) p zero n e lp lk deep = in_i0 l p n (record { is_part = lp; line_is = e }) deep
  at_pair None p zero n e lp lk deep = in_00 p n (line_at c p sound.valid lp e) deep
  at_pair (Some l) p (suc j) n e lp lk deep = in_ij l p j n (record { is_part = lp; line_is = e }) lk deep
  at_pair None p (suc j) n e lp lk deep = in_0j p j n (line_at c p sound.valid lp e) lk deep

  -- the ends of a pair's Poisson backorders enclose them
  pub pair_in : (p k : ℕ) → p < length c.parts → k < length c.sites → Encloses f (poisson_of f c s p k).lo (poisson_of f c s p k).hi (poisson c s p k)
  pair_in p k lp lk n deep = at_pair (line_of c.parts p) p k n refl lp lk deep

-- ---- totals

module _ (f : ℕ) (c : CaseRows) (s : List ℕ) (least : 24 ≤ f) (sound : IsSound c s) where
  line_in : (l j n : ℕ) → IsLine c l → 1 ≤ j → j < length c.sites → 1024 ≤ n → In f (poisson_of f c s l j) (poisson_0j c s n l j)
  line_in l zero n line h lj deep = absurd (omega (arith, h))
  line_in l (suc j) n line h lj deep =
      subst (λ o. In f (by_pair (λ l i. poisson_depot_shop f c s i) (poisson_depot_line f c s) (λ l i j. poisson_base_shop f c s i j) (poisson_base_line f c s) o l (suc j)) (poisson_0j c s n l (suc j)))
      (sym (no_line_there c.parts l line.no_parent)) (in_0j f c s least sound l j n line lj deep)

  family_in : (l n : ℕ) → IsLine c l → 1024 ≤ n → In f (poisson_family_total_of f c s l) (poisson_family_total c s n l)
  unfolding poisson_family_total
  family_in l n line deep =
      sum_in f (poisson_weighed f c s l) (λ j. whole (weight c l) *ℚ poisson_0j c s n l j) (bases c)
      (each_in_range _ (length c.sites - 1) 1 (λ j h k. times_encloses f (poisson_of f c s l j) (weight c l) (poisson_0j c s n l j) (line_in l j n line h (omega (arith, k)) deep)))

  -- the ends of the Poisson total enclose it
  pub total_in : Encloses f (poisson_total_of f c s).lo (poisson_total_of f c s).hi (poisson_total c s)
  unfolding poisson_total
  total_in n deep =
      sum_in f (poisson_family_total_of f c s) (poisson_family_total c s n) (line_units c)
      (all_follow (λ p. (p < length c.parts) × (is_line (part_at c.parts p) ≡ true)) _ (line_units c)
      (λ p h. family_in p n (record { is_part = h.0; no_parent = h.1 }) deep)
      (passed (λ p. is_line (part_at c.parts p)) (length c.parts) (length c.parts) 0 (omega arith)))
