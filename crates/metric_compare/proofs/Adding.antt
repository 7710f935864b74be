-- Sums of ends as loops make them.
use Rattle.std.proofs.Common.{◌≡◌, ℕ, zero, suc, ◌+◌, ◌*◌, ◌^◌, ◌<◌, ◌≤◌, Bool, true, false, List, [], ◌∷◌, length, get_or, map, filter, Option, Some, None, refl, sym, ap, ap₂, ◌∙◌, subst, arith, mul-le-mul_left, zero-add}
use Rattle.std.specs.List.{fold, range_with_len}
use Rattle.std.proofs.lemmas.List.{map_push}
use Rattle.std.proofs.lemmas.List.Sums.{fold-append}
use Rattle.std.proofs.lemmas.List.FromFn.{get_or-range_with_len, length-range_with_len, map-range_with_len_more}
use Rattle.list_laws.proofs.Public.{flat_at, flat_length, kept_more, left_out}
use Rattle.fixed_interval.specs.Ends.{Ends, IsWithinLimit, ends_add, ends_capped, ends_exact}
use Rattle.moment_table.specs.Profile.{table_rows}
use Rattle.moment_table.proofs.Public.{rows_below}
use Rattle.spares_input.specs.Cases.{CaseRows}
use Rattle.spares_input.specs.Frames.{line_of}
use Rattle.fleet_model.specs.Rows.{all_parts, stock}
use Rattle.fleet_model.specs.Pairs.{by_pair}
use Rattle.family_items.specs.Inputs.{IsSound}
use Rattle.family_items.specs.Profile.{pipeline_of}
use Rattle.family_items.proofs.Public.{pipeline_is}
use Rattle.spares_input.specs.Pairs.{pair_place}
use Rattle.metric_compare.specs.Levels.{by_part, of_shop}
use Rattle.metric_compare.specs.Profile.{backorders_at, poisson_at, poisson_base_line, poisson_base_shop, poisson_depot_line, poisson_depot_shop, poisson_of}

-- ---- backorders are small

module _ (c : CaseRows) (s : List ℕ) (sound : IsSound c s) where
  capped_small : (p k : ℕ) (m : Ends) → p < length c.parts → k < length c.sites
      → IsWithinLimit 48 (poisson_at 48 (ends_capped m (pipeline_of 48 c s p k).cap) (stock c s p k))
  unfolding backorders_at
  capped_small p k m lp lk =
      let pair = pipeline_is 48 c s p k (omega arith) sound lp lk in
      let top = ends_capped m (pipeline_of 48 c s p k).cap in
      let below = (rows_below 48 top top (table_rows 48 top top) refl (stock c s p k) (omega (arith, pair.stock_most))).ebo in
      omega (arith, below, pair.cap_most)

  small_by : (o : Option ℕ) (p k : ℕ) → p < length c.parts → k < length c.sites
      → IsWithinLimit 48 (by_pair (λ l i. poisson_depot_shop 48 c s i) (poisson_depot_line 48 c s) (λ l i j. poisson_base_shop 48 c s i j) (poisson_base_line 48 c s) o p k)
  unfolding poisson_depot_shop poisson_depot_line poisson_base_shop poisson_base_line
  small_by (Some l) p zero lp lk = capped_small p 0 _ lp lk
  small_by None p zero lp lk = capped_small p 0 _ lp lk
  small_by (Some l) p (suc j) lp lk = capped_small p (suc j) _ lp lk
  small_by None p (suc j) lp lk = capped_small p (suc j) _ lp lk

  -- the Poisson backorders of a pair are at most 256
  pub pair_small : (p k : ℕ) → p < length c.parts → k < length c.sites → IsWithinLimit 48 (poisson_of 48 c s p k)
  pair_small p k lp lk = small_by (line_of c.parts p) p k lp lk

  small_of : (o : Option ℕ) (p k : ℕ) → p < length c.parts → k < length c.sites
      → IsWithinLimit 48 (by_pair (λ l i. poisson_depot_shop 48 c s i) (λ l. ends_exact 48 0) (λ l i j. poisson_base_shop 48 c s i j) (λ l j. ends_exact 48 0) o p k)
  unfolding poisson_depot_shop poisson_base_shop
  small_of (Some l) p zero lp lk = capped_small p 0 _ lp lk
  small_of None p zero lp lk = omega arith
  small_of (Some l) p (suc j) lp lk = capped_small p (suc j) _ lp lk
  small_of None p (suc j) lp lk = omega arith

  -- the Poisson backorders of a shop unit, and the 0 of a line unit, are at most 256
  pub shop_small : (p k : ℕ) → p < length c.parts → k < length c.sites → IsWithinLimit 48 (of_shop c s p k)
  shop_small p k lp lk = small_of (line_of c.parts p) p k lp lk

-- ---- a number of each pair

pub all_length : (c : CaseRows) (g : ℕ → ℕ → Ends) (all : List Ends) → all ≡ by_part c g → length all ≡ length c.parts * length c.sites
all_length c g all e =
    ap (λ (xs : List Ends). length xs) e ∙ flat_length g (length c.sites) (all_parts c) ∙ ap (λ n. n * length c.sites) (length-range_with_len 0 (length c.parts))

-- where there is a number for each pair, there is one at each place of a pair
pub all_within : (c : CaseRows) (g : ℕ → ℕ → Ends) (all : List Ends) (i : ℕ) → all ≡ by_part c g → i < length c.parts * length c.sites → i < length all
all_within c g all i e h = omega (arith, h, all_length c g all e)

-- the number found at the place of a pair is that of the pair
pub read_all : (c : CaseRows) (g : ℕ → ℕ → Ends) (all : List Ends) (p k i : ℕ) (d y : Ends) → all ≡ by_part c g → p < length c.parts → k < length c.sites
    → i ≡ pair_place (length c.sites) p k → y ≡ get_or all i d → y ≡ g p k
read_all c g all p k i d y e lp lk hi hy =
    let long : p < length (all_parts c) = omega (arith, lp, length-range_with_len 0 (length c.parts)) in
    hy ∙ ap₂ (λ (xs : List Ends) (j : ℕ). get_or xs j d) e hi ∙ flat_at g (length c.sites) d (all_parts c) p k long lk
    ∙ ap (λ q. g q k) (get_or-range_with_len 0 (length c.parts) p 0 lp ∙ zero-add p)

-- ---- sums

-- the sum of n of them from place a on, each at most most
pub record Sums (h : ℕ → Ends) (a n most : ℕ) (x : Ends) : Type 0 where
  pub is : x ≡ fold ends_add (ends_exact 48 0) (map h (range_with_len a n))
  pub top : x.hi ≤ n * most

-- with the next base's number added, the sum is that of one more base
pub sums_next : (h : ℕ → Ends) (a n m j most : ℕ) (x y z : Ends) → Sums h a n most x → a + n ≡ j → m ≡ n + 1 → y ≡ h j → y.hi ≤ most → z ≡ ends_add x y → Sums h a m most z
sums_next h a n m j most x y z sums hj hm hy top hz =
    subst (λ k. Sums h a k most z) (sym hm) (record {
      is = hz ∙ ap₂ ends_add sums.is hy ∙ sym (fold-append ends_add (ends_exact 48 0) (map h (range_with_len a n)) (h j ∷ []))
          ∙ sym (ap (fold ends_add (ends_exact 48 0)) (map-range_with_len_more h a n j hj));
      top = omega (arith, sums.top, top, ap (λ (v : Ends). v.hi) hz);
    })

-- the upper end of backorders of at most 256, weighted by at most 100, is at most 25,600
pub times_small : (x : Ends) (w : ℕ) → IsWithinLimit 48 x → w ≤ 100 → x.hi * w ≤ 25600 * 2 ^ 48
times_small x w h l =
    let p : x.hi * w ≤ x.hi * 100 = mul-le-mul_left x.hi l in
    omega (arith, p, h)

-- ---- one part more

-- the sum of those of the first n parts that are counted, each at most most
pub record Lines (h : ℕ → Ends) (t : ℕ → Bool) (n most : ℕ) (x : Ends) : Type 0 where
  pub is : x ≡ fold ends_add (ends_exact 48 0) (map h (filter t (range_with_len 0 n)))
  pub top : x.hi ≤ n * most

-- with the number of a part that counts added, the sum is that of one more part
pub line_more : (h : ℕ → Ends) (t : ℕ → Bool) (n most : ℕ) (x y z : Ends) → Lines h t n most x → t n ≡ true → y ≡ h n → y.hi ≤ most → z ≡ ends_add x y → Lines h t (n + 1) most z
line_more h t n most x y z lines on hy top hz = record {
  is = hz ∙ ap₂ ends_add lines.is hy ∙ sym (fold-append ends_add (ends_exact 48 0) (map h (filter t (range_with_len 0 n))) (h n ∷ []))
      ∙ sym (ap (fold ends_add (ends_exact 48 0)) (ap (map h) (kept_more t n on) ∙ map_push h (filter t (range_with_len 0 n)) n));
  top = omega (arith, lines.top, top, ap (λ (v : Ends). v.hi) hz);
}

-- a part that doesn't count leaves the sum as it is
pub line_less : (h : ℕ → Ends) (t : ℕ → Bool) (n most : ℕ) (x : Ends) → Lines h t n most x → t n ≡ false → Lines h t (n + 1) most x
line_less h t n most x lines off = record {
  is = lines.is ∙ sym (ap (λ ls. fold ends_add (ends_exact 48 0) (map h ls)) (left_out t n off));
  top = omega (arith, lines.top);
}
