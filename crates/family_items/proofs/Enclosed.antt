-- The item of each level encloses the model, and is within its range.
use Rattle.std.proofs.Common.{◌≡◌, ℕ, zero, suc, ◌<◌, ◌≤◌, List, length, get_or, map, Option, Some, None, refl, sym, subst, arith, le_trans, zero-lt-suc}
use Rattle.std.proofs.Math.Nat.{le_refl, max-le}
use Rattle.std.proofs.lemmas.List.{get_or-map, length-map}
use Rattle.exact_model.specs.Fraction.{Fraction, whole, sum_below, ◌≈◌, ◌≤ℚ◌, ◌+ℚ◌, ◌*ℚ◌}
use Rattle.exact_model.specs.Series.{ebo, vbo}
use Rattle.exact_model.specs.Shares.{shared}
use Rattle.exact_model.proofs.Public.{add_same, contains_same, same}
use Rattle.fixed_interval.specs.Ends.{Ends, In, ends_add}
use Rattle.fixed_interval.proofs.Public.{add_encloses, capped_encloses}
use Rattle.moment_table.specs.Profile.{table_rows}
use Rattle.moment_table.proofs.Public.{rows_below, table_encloses}
use Rattle.depot_pipeline.specs.declared.Moments.{Moments}
use Rattle.depot_pipeline.specs.declared.Feed.{Feed}
use Rattle.depot_pipeline.specs.Exact.{FeedIn, IsAtMost}
use Rattle.depot_pipeline.specs.Profile.{added, depot_line_ends, depot_shop_ends, feed_at, mean_part, no_feed, variance_part}
use Rattle.depot_pipeline.proofs.Public.{added_in, mean_part_in, variance_part_in}
use Rattle.base_pipeline.specs.declared.Held.{Held}
use Rattle.base_pipeline.specs.Exact.{DelayIn}
use Rattle.base_pipeline.specs.Profile.{base_line_ends, base_shop_ends, delay_at}
use Rattle.spares_input.specs.Frames.{line_of}
use Rattle.spares_input.specs.Cases.{CaseRows}
use Rattle.exact_model.specs.Sums.{sum_over}
use Rattle.fleet_model.specs.Rows.{shop_units, stock}
use Rattle.fleet_model.specs.Demand.{f_i0, f_ij, f_0j}
use Rattle.fleet_model.specs.ZeroStock.{direct_i0, direct_00, direct_ij, direct_0j, zero_stock_i0, zero_stock_00, zero_stock_ij, zero_stock_0j}
use Rattle.fleet_model.specs.Pipelines.{pipeline_i0, pipeline_00, pipeline_ij, pipeline_0j, ebo_i0, ebo_00, ebo_ij, ebo_0j, vbo_i0, vbo_00, vbo_ij, vbo_0j}
use Rattle.fleet_model.specs.Pipelines as exact
use Rattle.fleet_model.specs.Pairs.{by_pair}
use Rattle.fleet_model.specs.Laws.{Reaches}
use Rattle.fleet_model.proofs.Public.{sum_places, capped_i0, capped_00, capped_ij, capped_0j, allocation_reaches}
use Rattle.demand_rates.proofs.Public.{no_line_there}
use Rattle.family_items.specs.declared.pipeline.Pipeline.{Pipeline}
use Rattle.family_items.specs.declared.item.Item.{Item}
use Rattle.family_items.specs.Profile.{base_line, base_shop, depot_feed, depot_line, depot_shop, feed_of, delay_of, item_of, pipeline_of, share_of, stocked}
use Rattle.family_items.specs.Encloses.{EnclosesItem, IsSmallItem}
use Rattle.family_items.specs.Inputs.{HasTable, IsLine, IsPipeline, IsShop, IsSound}
use Rattle.family_items.proofs.Ranges.{added_least, can_table, cap_in, direct_in, pipeline_is, share_in}
use Rattle.family_items.proofs.Units.{line_at, shop_at}

-- the four intervals contain a mean, a variance, backorders and their variance
pub record FiguresIn (f : ℕ) (x : Item f) (u w e v : Fraction) : Type 0 where
  pub mean : In f x.mean u
  pub variance : In f x.variance w
  pub backorders : In f x.backorders e
  pub spread : In f x.spread v

stocked_in : (f : ℕ) (x : Pipeline f) (m : Moments f) → HasTable f m → x.stock ≤ 63 → (u w : Fraction) → In f m.mean u → In f m.variance w
    → (n : ℕ) → 1024 ≤ n → FiguresIn f (stocked f x m) u w (ebo n u w x.stock) (vbo n u w x.stock)
unfolding stocked
stocked_in f x m can few u w a b n deep =
    let r = table_encloses f m.mean m.variance x.stock can few u w a b n deep in
    record { mean = a; variance = b; backorders = r.ebo; spread = r.vbo }

stocked_small : (f : ℕ) (x : Pipeline f) (m : Moments f) → HasTable f m → x.stock ≤ 63 → IsSmallItem f (stocked f x m)
unfolding stocked
stocked_small f x m can few =
    let r = rows_below f m.mean m.variance (table_rows f m.mean m.variance) refl x.stock (omega (arith, few)) in
    record {
      mean_most = can.mean_top;
      variance_most = can.variance_top;
      backorders_most = le_trans r.ebo can.mean_top;
      spread_most = le_trans r.vbo (max-le can.variance_top can.mean_top);
    }

feed_in : (f : ℕ) (share : Ends) (x : Item f) (q u w e v : Fraction) → In f share q → FiguresIn f x u w e v → FeedIn f (feed_of f share x) q e v
feed_in f share x q u w e v h i = record { share = h; backorders = i.backorders; spread = i.spread }

-- the sum by places is the model's
pub sum_by_places : (xs : List ℕ) (q : ℕ → Fraction) (d : Fraction) (count : ℕ) → count ≡ length xs
    → d +ℚ sum_below (λ k. q (get_or xs k 0)) count ≈ d +ℚ sum_over xs q
sum_by_places xs q d count e =
    add_same (same d) (subst (λ m. sum_below (λ k. q (get_or xs k 0)) m ≈ sum_over xs q) (sym e) (sum_places xs q))

module _ (f : ℕ) (c : CaseRows) (s : List ℕ) (least : 24 ≤ f) (sound : IsSound c s) where
  reach : (n : ℕ) → 1024 ≤ n → Reaches c s n
  reach n deep = allocation_reaches c s n sound.valid sound.allocation (omega (arith, deep))

  pair : (p k : ℕ) → p < length c.parts → k < length c.sites → IsPipeline f (pipeline_of f c s p k)
  pair p k lp lk = pipeline_is f c s p k least sound lp lk

  -- ---- a pair's direct part, cap and share, by its level

  -- the direct part of a pair, by its level, lies between its ends
  pub direct_level : (o : Option ℕ) (p k : ℕ) → line_of c.parts p ≡ o → p < length c.parts → k < length c.sites
      → In f (pipeline_of f c s p k).direct (by_pair (direct_i0 c) (direct_00 c) (direct_ij c) (direct_0j c) o p k)
  direct_level o p k e lp lk =
      subst (λ o. In f (pipeline_of f c s p k).direct (by_pair (direct_i0 c) (direct_00 c) (direct_ij c) (direct_0j c) o p k)) e
      (direct_in f c p k (sound.pairs p k lp lk))

  -- the share of a pair, by its level, lies between its ends
  pub share_level : (o : Option ℕ) (p k : ℕ) → line_of c.parts p ≡ o → p < length c.parts → k < length c.sites
      → In f (share_of f c p k) (by_pair (f_i0 c) (λ l. whole 1) (f_ij c) (f_0j c) o p k)
  share_level o p k e lp lk =
      subst (λ o. In f (share_of f c p k) (by_pair (f_i0 c) (λ l. whole 1) (f_ij c) (f_0j c) o p k)) e (share_in f c p k (sound.pairs p k lp lk))

  cap_level : (o : Option ℕ) (p k : ℕ) (q : Fraction) → line_of c.parts p ≡ o → p < length c.parts → k < length c.sites
      → q ≤ℚ by_pair (zero_stock_i0 c) (zero_stock_00 c) (zero_stock_ij c) (zero_stock_0j c) o p k → IsAtMost f (pipeline_of f c s p k).cap q
  cap_level o p k q e lp lk h =
      cap_in f c p k q (sound.pairs p k lp lk)
      (subst (λ o. q ≤ℚ by_pair (zero_stock_i0 c) (zero_stock_00 c) (zero_stock_ij c) (zero_stock_0j c) o p k) (sym e) h)

  some_sites : 0 < length c.sites
  some_sites = omega (arith, sound.valid.frame.fewest_sites)

  -- ---- the shop unit at the depot

  can_i0 : (i : ℕ) → i < length c.parts → HasTable f (depot_shop_ends f (pipeline_of f c s i 0).direct (pipeline_of f c s i 0).cap)
  can_i0 i l = can_table f (pipeline_of f c s i 0) (pipeline_of f c s i 0).direct (pipeline_of f c s i 0).direct (pair i 0 l some_sites) (le_refl (pipeline_of f c s i 0).direct.lo)

  -- the item of a shop unit at the depot is small
  pub small_i0 : (i : ℕ) → i < length c.parts → IsSmallItem f (depot_shop f c s i)
  unfolding depot_shop
  small_i0 i l = stocked_small f (pipeline_of f c s i 0) _ (can_i0 i l) (pair i 0 l some_sites).stock_most

  pub in_i0 : (l i n : ℕ) → IsShop c l i → 1024 ≤ n
      → FiguresIn f (depot_shop f c s i) (pipeline_i0 c l i).mean (pipeline_i0 c l i).variance (ebo_i0 c s n l i) (vbo_i0 c s n l i)
  unfolding depot_shop pipeline_i0 ebo_i0 vbo_i0
  in_i0 l i n shop deep =
      let capped = capped_i0 c s n l i (reach n deep) in
      let d : In f (pipeline_of f c s i 0).direct (direct_i0 c l i) = direct_level (Some l) i 0 shop.line_is shop.is_part some_sites in
      let b = cap_level (Some l) i 0 (direct_i0 c l i) shop.line_is shop.is_part some_sites capped.mean_most in
      let x = capped_encloses f (pipeline_of f c s i 0).direct (pipeline_of f c s i 0).cap (direct_i0 c l i) b d in
      stocked_in f (pipeline_of f c s i 0) _ (can_i0 i shop.is_part) (pair i 0 shop.is_part some_sites).stock_most _ _ x x n deep

  fed_i0 : (l i n : ℕ) → IsShop c l i → 1024 ≤ n → FeedIn f (depot_feed f c s i) (f_i0 c l i) (ebo_i0 c s n l i) (vbo_i0 c s n l i)
  fed_i0 l i n shop deep =
      feed_in f (share_of f c i 0) (depot_shop f c s i) _ _ _ _ _ (share_level (Some l) i 0 shop.line_is shop.is_part some_sites) (in_i0 l i n shop deep)

  -- ---- the line unit at the depot

  feeds_in : (l n k : ℕ) → IsLine c l → 1024 ≤ n → k < length (map (depot_feed f c s) (shop_units c l))
      → FeedIn f (feed_at (map (depot_feed f c s) (shop_units c l)) k) (f_i0 c l (get_or (shop_units c l) k 0))
      (ebo_i0 c s n l (get_or (shop_units c l) k 0)) (vbo_i0 c s n l (get_or (shop_units c l) k 0))
  feeds_in l n k line deep h =
      let w : k < length (shop_units c l) = omega (arith, h, length-map (shop_units c l) (depot_feed f c s)) in
      subst (λ (z : Feed f). FeedIn f z (f_i0 c l (get_or (shop_units c l) k 0)) (ebo_i0 c s n l (get_or (shop_units c l) k 0)) (vbo_i0 c s n l (get_or (shop_units c l) k 0)))
      (sym (get_or-map (depot_feed f c s) (shop_units c l) k 0 (no_feed f) w))
      (fed_i0 l (get_or (shop_units c l) k 0) n (shop_at c l k sound.valid line w) deep)

  can_00 : (l : ℕ) → IsLine c l → HasTable f (depot_line_ends f (pipeline_of f c s l 0).direct (pipeline_of f c s l 0).cap (map (depot_feed f c s) (shop_units c l)))
  can_00 l line =
      can_table f (pipeline_of f c s l 0) _ _ (pair l 0 line.is_part some_sites)
      (added_least (pipeline_of f c s l 0).direct (λ k. mean_part f (feed_at (map (depot_feed f c s) (shop_units c l)) k)) (length (map (depot_feed f c s) (shop_units c l))))

  -- the item of a line unit at the depot is small
  pub small_00 : (l : ℕ) → IsLine c l → IsSmallItem f (depot_line f c s l)
  unfolding depot_line
  small_00 l line = stocked_small f (pipeline_of f c s l 0) _ (can_00 l line) (pair l 0 line.is_part some_sites).stock_most

  mean_00 : (l n : ℕ) → IsLine c l → 1024 ≤ n
      → In f (added (pipeline_of f c s l 0).direct (λ k. mean_part f (feed_at (map (depot_feed f c s) (shop_units c l)) k)) (length (map (depot_feed f c s) (shop_units c l)))) (pipeline_00 c s n l).mean
  unfolding pipeline_00
  mean_00 l n line deep =
      contains_same (sum_by_places (shop_units c l) (λ i. f_i0 c l i *ℚ ebo_i0 c s n l i) (direct_00 c l) _ (length-map (shop_units c l) (depot_feed f c s)))
      (added_in f (pipeline_of f c s l 0).direct _ (direct_00 c l) (λ k. f_i0 c l (get_or (shop_units c l) k 0) *ℚ ebo_i0 c s n l (get_or (shop_units c l) k 0)) _
      (direct_level None l 0 (no_line_there c.parts l line.no_parent) line.is_part some_sites)
      (λ k h. mean_part_in f (feed_at (map (depot_feed f c s) (shop_units c l)) k) _ _ _ (feeds_in l n k line deep h)))

  variance_00 : (l n : ℕ) → IsLine c l → 1024 ≤ n
      → In f (added (pipeline_of f c s l 0).direct (λ k. variance_part f (feed_at (map (depot_feed f c s) (shop_units c l)) k)) (length (map (depot_feed f c s) (shop_units c l)))) (pipeline_00 c s n l).variance
  unfolding pipeline_00
  variance_00 l n line deep =
      contains_same (sum_by_places (shop_units c l) (λ i. shared (f_i0 c l i) (ebo_i0 c s n l i) (vbo_i0 c s n l i)) (direct_00 c l) _ (length-map (shop_units c l) (depot_feed f c s)))
      (added_in f (pipeline_of f c s l 0).direct _ (direct_00 c l)
      (λ k. shared (f_i0 c l (get_or (shop_units c l) k 0)) (ebo_i0 c s n l (get_or (shop_units c l) k 0)) (vbo_i0 c s n l (get_or (shop_units c l) k 0))) _
      (direct_level None l 0 (no_line_there c.parts l line.no_parent) line.is_part some_sites)
      (λ k h. variance_part_in f (feed_at (map (depot_feed f c s) (shop_units c l)) k) _ _ _ (feeds_in l n k line deep h)))

  pub in_00 : (l n : ℕ) → IsLine c l → 1024 ≤ n
      → FiguresIn f (depot_line f c s l) (pipeline_00 c s n l).mean (pipeline_00 c s n l).variance (ebo_00 c s n l) (vbo_00 c s n l)
  unfolding depot_line ebo_00 vbo_00
  in_00 l n line deep =
      let e = no_line_there c.parts l line.no_parent in
      let capped = capped_00 c s n l (reach n deep) in
      let bm = cap_level None l 0 (pipeline_00 c s n l).mean e line.is_part some_sites capped.mean_most in
      let bv = cap_level None l 0 (pipeline_00 c s n l).variance e line.is_part some_sites capped.variance_most in
      stocked_in f (pipeline_of f c s l 0) _ (can_00 l line) (pair l 0 line.is_part some_sites).stock_most _ _
      (capped_encloses f _ (pipeline_of f c s l 0).cap _ bm (mean_00 l n line deep)) (capped_encloses f _ (pipeline_of f c s l 0).cap _ bv (variance_00 l n line deep)) n deep

  -- ---- the shop unit at base j + 1

  can_ij : (i k : ℕ) → i < length c.parts → k < length c.sites
      → HasTable f (base_shop_ends f (pipeline_of f c s i k).direct (pipeline_of f c s i k).cap (feed_of f (share_of f c i k) (depot_shop f c s i)))
  can_ij i k li lk = can_table f (pipeline_of f c s i k) _ _ (pair i k li lk) (omega arith)

  -- the item of a shop unit at a base is small
  pub small_ij : (i k : ℕ) → i < length c.parts → k < length c.sites → IsSmallItem f (base_shop f c s i k)
  unfolding base_shop
  small_ij i k li lk = stocked_small f (pipeline_of f c s i k) _ (can_ij i k li lk) (pair i k li lk).stock_most

  pub in_ij : (l i j n : ℕ) → IsShop c l i → suc j < length c.sites → 1024 ≤ n
      → FiguresIn f (base_shop f c s i (suc j)) (pipeline_ij c s n l i (suc j)).mean (pipeline_ij c s n l i (suc j)).variance (ebo_ij c s n l i (suc j)) (vbo_ij c s n l i (suc j))
  unfolding base_shop pipeline_ij ebo_ij vbo_ij
  in_ij l i j n shop lj deep =
      let capped = capped_ij c s n l i (suc j) (reach n deep) (zero-lt-suc j, lj) in
      let d : In f (pipeline_of f c s i (suc j)).direct (direct_ij c l i (suc j)) = direct_level (Some l) i (suc j) shop.line_is shop.is_part lj in
      let fed : FeedIn f (feed_of f (share_of f c i (suc j)) (depot_shop f c s i)) (f_ij c l i (suc j)) (ebo_i0 c s n l i) (vbo_i0 c s n l i) =
      feed_in f (share_of f c i (suc j)) (depot_shop f c s i) _ _ _ _ _ (share_level (Some l) i (suc j) shop.line_is shop.is_part lj) (in_i0 l i n shop deep) in
      let m = add_encloses f (pipeline_of f c s i (suc j)).direct _ (direct_ij c l i (suc j)) (f_ij c l i (suc j) *ℚ ebo_i0 c s n l i) d (mean_part_in f _ _ _ _ fed) in
      let v = add_encloses f (pipeline_of f c s i (suc j)).direct _ (direct_ij c l i (suc j)) (shared (f_ij c l i (suc j)) (ebo_i0 c s n l i) (vbo_i0 c s n l i)) d (variance_part_in f _ _ _ _ fed) in
      let bm = cap_level (Some l) i (suc j) _ shop.line_is shop.is_part lj capped.mean_most in
      let bv = cap_level (Some l) i (suc j) _ shop.line_is shop.is_part lj capped.variance_most in
      stocked_in f (pipeline_of f c s i (suc j)) _ (can_ij i (suc j) shop.is_part lj) (pair i (suc j) shop.is_part lj).stock_most _ _
      (capped_encloses f _ (pipeline_of f c s i (suc j)).cap _ bm m) (capped_encloses f _ (pipeline_of f c s i (suc j)).cap _ bv v) n deep

  -- ---- the line unit at base j + 1

  delays_in : (l j n k : ℕ) → IsLine c l → suc j < length c.sites → 1024 ≤ n → k < length (map (λ i. delay_of f (base_shop f c s i (suc j))) (shop_units c l))
      → DelayIn f (delay_at (map (λ i. delay_of f (base_shop f c s i (suc j))) (shop_units c l)) k)
      (ebo_ij c s n l (get_or (shop_units c l) k 0) (suc j)) (vbo_ij c s n l (get_or (shop_units c l) k 0) (suc j))
  delays_in l j n k line lj deep h =
      let w : k < length (shop_units c l) = omega (arith, h, length-map (shop_units c l) (λ i. delay_of f (base_shop f c s i (suc j)))) in
      let x = in_ij l (get_or (shop_units c l) k 0) j n (shop_at c l k sound.valid line w) lj deep in
      subst (λ (z : Held f). DelayIn f z (ebo_ij c s n l (get_or (shop_units c l) k 0) (suc j)) (vbo_ij c s n l (get_or (shop_units c l) k 0) (suc j)))
      (sym (get_or-map (λ i. delay_of f (base_shop f c s i (suc j))) (shop_units c l) k 0 _ w))
      (record { backorders = x.backorders; spread = x.spread })

  can_0j : (l k : ℕ) → IsLine c l → k < length c.sites
      → HasTable f (base_line_ends f (pipeline_of f c s l k).direct (pipeline_of f c s l k).cap (feed_of f (share_of f c l k) (depot_line f c s l))
      (map (λ i. delay_of f (base_shop f c s i k)) (shop_units c l)))
  can_0j l k line lk =
      can_table f (pipeline_of f c s l k) _ _ (pair l k line.is_part lk)
      (omega (
        arith,
        added_least (ends_add (pipeline_of f c s l k).direct (mean_part f (feed_of f (share_of f c l k) (depot_line f c s l))))
            (λ n. (delay_at (map (λ i. delay_of f (base_shop f c s i k)) (shop_units c l)) n).backorders) (length (map (λ i. delay_of f (base_shop f c s i k)) (shop_units c l))),
      ))

  pub small_0j : (l k : ℕ) → IsLine c l → k < length c.sites → IsSmallItem f (base_line f c s l k)
  unfolding base_line
  small_0j l k line lk = stocked_small f (pipeline_of f c s l k) _ (can_0j l k line lk) (pair l k line.is_part lk).stock_most

  fed_0j : (l j n : ℕ) → IsLine c l → suc j < length c.sites → 1024 ≤ n
      → FeedIn f (feed_of f (share_of f c l (suc j)) (depot_line f c s l)) (f_0j c l (suc j)) (ebo_00 c s n l) (vbo_00 c s n l)
  fed_0j l j n line lj deep =
      feed_in f (share_of f c l (suc j)) (depot_line f c s l) _ _ _ _ _ (share_level None l (suc j) (no_line_there c.parts l line.no_parent) line.is_part lj) (in_00 l n line deep)

  mean_0j : (l j n : ℕ) → IsLine c l → suc j < length c.sites → 1024 ≤ n
      → In f (added (ends_add (pipeline_of f c s l (suc j)).direct (mean_part f (feed_of f (share_of f c l (suc j)) (depot_line f c s l))))
      (λ k. (delay_at (map (λ i. delay_of f (base_shop f c s i (suc j))) (shop_units c l)) k).backorders) (length (map (λ i. delay_of f (base_shop f c s i (suc j))) (shop_units c l))))
      (pipeline_0j c s n l (suc j)).mean
  unfolding pipeline_0j
  mean_0j l j n line lj deep =
      let d = direct_level None l (suc j) (no_line_there c.parts l line.no_parent) line.is_part lj in
      let first = add_encloses f (pipeline_of f c s l (suc j)).direct _ (direct_0j c l (suc j)) (f_0j c l (suc j) *ℚ ebo_00 c s n l) d (mean_part_in f _ _ _ _ (fed_0j l j n line lj deep)) in
      contains_same (sum_by_places (shop_units c l) (λ i. ebo_ij c s n l i (suc j)) (direct_0j c l (suc j) +ℚ f_0j c l (suc j) *ℚ ebo_00 c s n l) _
      (length-map (shop_units c l) (λ i. delay_of f (base_shop f c s i (suc j)))))
      (added_in f _ _ (direct_0j c l (suc j) +ℚ f_0j c l (suc j) *ℚ ebo_00 c s n l) (λ k. ebo_ij c s n l (get_or (shop_units c l) k 0) (suc j)) _ first
      (λ k h. (delays_in l j n k line lj deep h).backorders))

  variance_0j : (l j n : ℕ) → IsLine c l → suc j < length c.sites → 1024 ≤ n
      → In f (added (ends_add (pipeline_of f c s l (suc j)).direct (variance_part f (feed_of f (share_of f c l (suc j)) (depot_line f c s l))))
      (λ k. (delay_at (map (λ i. delay_of f (base_shop f c s i (suc j))) (shop_units c l)) k).spread) (length (map (λ i. delay_of f (base_shop f c s i (suc j))) (shop_units c l))))
      (pipeline_0j c s n l (suc j)).variance
  unfolding pipeline_0j
  variance_0j l j n line lj deep =
      let d = direct_level None l (suc j) (no_line_there c.parts l line.no_parent) line.is_part lj in
      let first = add_encloses f (pipeline_of f c s l (suc j)).direct _ (direct_0j c l (suc j)) (shared (f_0j c l (suc j)) (ebo_00 c s n l) (vbo_00 c s n l)) d
      (variance_part_in f _ _ _ _ (fed_0j l j n line lj deep)) in
      contains_same (sum_by_places (shop_units c l) (λ i. vbo_ij c s n l i (suc j)) (direct_0j c l (suc j) +ℚ shared (f_0j c l (suc j)) (ebo_00 c s n l) (vbo_00 c s n l)) _
      (length-map (shop_units c l) (λ i. delay_of f (base_shop f c s i (suc j)))))
      (added_in f _ _ (direct_0j c l (suc j) +ℚ shared (f_0j c l (suc j)) (ebo_00 c s n l) (vbo_00 c s n l)) (λ k. vbo_ij c s n l (get_or (shop_units c l) k 0) (suc j)) _ first
      (λ k h. (delays_in l j n k line lj deep h).spread))

  -- the item of a line unit at a base contains the model's numbers at each depth from 1024 on
  pub in_0j : (l j n : ℕ) → IsLine c l → suc j < length c.sites → 1024 ≤ n
      → FiguresIn f (base_line f c s l (suc j)) (pipeline_0j c s n l (suc j)).mean (pipeline_0j c s n l (suc j)).variance (ebo_0j c s n l (suc j)) (vbo_0j c s n l (suc j))
  unfolding base_line ebo_0j vbo_0j
  in_0j l j n line lj deep =
      let e = no_line_there c.parts l line.no_parent in
      let capped = capped_0j c s n l (suc j) (reach n deep) (zero-lt-suc j, lj) in
      let bm = cap_level None l (suc j) (pipeline_0j c s n l (suc j)).mean e line.is_part lj capped.mean_most in
      let bv = cap_level None l (suc j) (pipeline_0j c s n l (suc j)).variance e line.is_part lj capped.variance_most in
      stocked_in f (pipeline_of f c s l (suc j)) _ (can_0j l (suc j) line lj) (pair l (suc j) line.is_part lj).stock_most _ _
      (capped_encloses f _ (pipeline_of f c s l (suc j)).cap _ bm (mean_0j l j n line lj deep)) (capped_encloses f _ (pipeline_of f c s l (suc j)).cap _ bv (variance_0j l j n line lj deep)) n deep

  -- ---- by pair

  abbrev item_by : Option ℕ → ℕ → ℕ → Item f
  item_by o p k = by_pair (λ l i. depot_shop f c s i) (depot_line f c s) (λ l i j. base_shop f c s i j) (base_line f c s) o p k

  abbrev moments_by : ℕ → Option ℕ → ℕ → ℕ → exact.Moments
  moments_by n o p k = by_pair (pipeline_i0 c) (pipeline_00 c s n) (pipeline_ij c s n) (pipeline_0j c s n) o p k

  figures_of : (o : Option ℕ) (p k n : ℕ) → line_of c.parts p ≡ o → p < length c.parts → k < length c.sites → 1024 ≤ n
      → FiguresIn f (item_by o p k) (moments_by n o p k).mean (moments_by n o p k).variance
      (ebo n (moments_by n o p k).mean (moments_by n o p k).variance (stock c s p k)) (vbo n (moments_by n o p k).mean (moments_by n o p k).variance (stock c s p k))
  unfolding ebo_i0 ebo_00 ebo_ij ebo_0j vbo_i0 vbo_00 vbo_ij vbo_0j
  figures_of (Some l) p zero n e lp lk deep = in_i0 l p n (record { is_part = lp; line_is = e }) deep
  figures_of None p zero n e lp lk deep = in_00 p n (line_at c p sound.valid lp e) deep
  figures_of (Some l) p (suc j) n e lp lk deep = in_ij l p j n (record { is_part = lp; line_is = e }) lk deep
  figures_of None p (suc j) n e lp lk deep = in_0j p j n (line_at c p sound.valid lp e) lk deep

  -- each pair's item encloses the model's numbers of the pair
  pub item_in : (p k : ℕ) → p < length c.parts → k < length c.sites → EnclosesItem f c s p k (item_of f c s p k)
  item_in p k lp lk = record {
    mean_in = λ n deep. (figures_of (line_of c.parts p) p k n refl lp lk deep).mean;
    variance_in = λ n deep. (figures_of (line_of c.parts p) p k n refl lp lk deep).variance;
    backorders_in = λ n deep. (figures_of (line_of c.parts p) p k n refl lp lk deep).backorders;
    spread_in = λ n deep. (figures_of (line_of c.parts p) p k n refl lp lk deep).spread;
  }

  small_of : (o : Option ℕ) (p k : ℕ) → line_of c.parts p ≡ o → p < length c.parts → k < length c.sites → IsSmallItem f (item_by o p k)
  small_of (Some l) p zero e lp lk = small_i0 p lp
  small_of None p zero e lp lk = small_00 p (line_at c p sound.valid lp e)
  small_of (Some l) p (suc j) e lp lk = small_ij p (suc j) lp lk
  small_of None p (suc j) e lp lk = small_0j p (suc j) (line_at c p sound.valid lp e) lk

  -- each pair's item is small
  pub item_small : (p k : ℕ) → p < length c.parts → k < length c.sites → IsSmallItem f (item_of f c s p k)
  item_small p k lp lk = small_of (line_of c.parts p) p k refl lp lk
