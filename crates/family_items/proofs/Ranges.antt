-- Where the checks of the rates pass, a pipeline has a table.
use Rattle.std.proofs.Common.{◌≡◌, ◌∙◌, ℕ, zero, suc, ◌+◌, ◌*◌, ◌/◌, ◌^◌, ◌<◌, ◌≤◌, ◌⊎◌, inl, inr, Option, Some, None, sym, ap, subst, arith, lit<, length, mul-le-mul_right, mul-le-mul_left, le_of_mul-le-mul_right, le_trans, zero-lt-suc, List, eq-zero-or-pos}
use Rattle.std.proofs.Math.Nat.{pow-le-pow_right, le_refl}
use Rattle.std.proofs.Math.Dec.{lit≤}
use Rattle.std.proofs.lemmas.Nat.{le-div, div-add-mod', mod_below}
use Rattle.list_laws.proofs.Public.{ceil_above, ceil_most, floor_below_ceil}
use Rattle.exact_model.specs.Fraction.{Fraction, whole, ◌≈◌, ◌≤ℚ◌, ◌/ℚ◌}
use Rattle.exact_model.proofs.Public.{contains_same, le_same, over, same, turned, ◌≈≈◌}
use Rattle.fixed_interval.specs.Ends.{Ends, In, ends_ratio}
use Rattle.fixed_interval.proofs.Public.{ratio_encloses, quotient_is}
use Rattle.depot_pipeline.specs.Exact.{IsAtMost}
use Rattle.depot_pipeline.specs.Profile.{added, capped_at}
use Rattle.spares_input.specs.Frames.{line_of}
use Rattle.spares_input.specs.Cases.{CaseRows, rate_at}
use Rattle.spares_input.specs.Stocks.{HasPair, IsFor, StockList, stock_at}
use Rattle.spares_input.specs.declared.rows.PartId.{PartId}
use Rattle.spares_input.specs.declared.rows.SiteId.{SiteId}
use Rattle.fleet_model.specs.Rows.{stock}
use Rattle.fleet_model.specs.Pairs.{direct, share, zero_stock}
use Rattle.fleet_model.specs.Units.{days_at, demand_of, direct_of, zero_stock_of, in_pipeline, pipeline_scale}
use Rattle.fleet_model.proofs.Public.{allocation_reaches, stock_holds, stocks_allocation}
use Rattle.demand_rates.specs.declared.kinds.PairRates.{PairRates}
use Rattle.demand_rates.specs.Limits.{IsAccepted}
use Rattle.demand_rates.specs.RateLists.{HasRates, rates_at}
use Rattle.demand_rates.specs.Rates.{pair_rates, value, ArePairRates}
use Rattle.family_items.specs.declared.pipeline.Pipeline.{Pipeline}
use Rattle.family_items.specs.Profile.{pipeline_from, pipeline_of, share_from, share_of}
use Rattle.family_items.specs.Inputs.{AreInputs, HasTable, InputRows, IsPipeline, IsRated, IsSound}

-- ---- what the checks of the rates leave

none_of : (c : CaseRows) (o : Option ℕ) (p k : ℕ) → demand_of c o p k ≡ 0 → direct_of c o p k ≡ 0
none_of c (Some l) p zero h = omega (arith, ap (λ n. n * (rate_at c p 0).repair_days) h)
none_of c None p zero h = omega (arith, ap (λ n. n * (rate_at c p 0).repair_days * 100000000) h)
none_of c (Some l) p (suc j) h = omega (arith, ap (λ n. n * days_at c p (suc j)) h)
none_of c None p (suc j) h = omega (arith, ap (λ n. n * days_at c p (suc j) * 100000000) h)

most_of : (c : CaseRows) (o : Option ℕ) (p k : ℕ) → direct_of c o p k ≤ zero_stock_of c o p k
most_of c (Some l) p zero = omega arith
most_of c None p zero = omega arith
most_of c (Some l) p (suc j) = omega arith
most_of c None p (suc j) = omega arith

rated_of : (n d z : ℕ) → (n ≡ 0 → d ≡ 0) → d ≤ z → IsAccepted n d z → IsRated d z
rated_of n d z none order a = record {
  some = elim (eq-zero-or-pos n) [
    | inl e ↦ inl (omega (arith, a.ratio, none e))
    | inr h ↦ inr (a.thick h)
  ];
  order = order;
  most = a.small;
  ratio = a.ratio;
}

-- the rates of a pair pass the checks of direct part and zero-stock mean
pub rated : (c : CaseRows) (p k : ℕ) (r : PairRates) → ArePairRates c p k r → IsRated r.direct r.zero_stock
rated c p k r h =
    subst (λ (r : PairRates). IsRated r.direct r.zero_stock) (sym h.units)
    (rated_of (pair_rates c p k).demand.num _ _ (none_of c (line_of c.parts p) p k) (most_of c (line_of c.parts p) p k)
    (subst (λ (r : PairRates). IsAccepted r.demand.num r.direct r.zero_stock) h.units h.accepted))

-- both are fractions that intervals take
pub ratios_small : (d z : ℕ) → IsRated d z → (d ≤ 4096 * 365000000000000000000) × (z ≤ 4096 * 365000000000000000000)
ratios_small d z h =
    let most : z ≤ 4096 * 365000000000000000000 = le_trans h.most (lit≤ tt) in
    (le_trans h.order most, most)

-- and so is a share
pub share_small : (n d : ℕ) → n ≤ d → n ≤ 4096 * d
share_small n d h = omega (arith, h)

-- ---- the ends of a direct part and of a cap

abbrev direct_ends : ℕ → ℕ → Ends
direct_ends f d = ends_ratio f d 365000000000000000000

abbrev cap_at : ℕ → ℕ → ℕ
cap_at f z = (ends_ratio f z 365000000000000000000).hi

-- a value that the zero-stock mean bounds is at most the cap
pub within_cap : (f z : ℕ) (q : Fraction) → q ≤ℚ in_pipeline z → IsAtMost f (cap_at f z) q
unfolding in_pipeline
within_cap f z q h = cap_step q.num q.den (2 ^ f) z (cap_at f z) h.cross (ceil_above (z * 2 ^ f) 365000000000000000000 (lit< tt))
  where
    cap_step : (a b o z c : ℕ) → a * 365000000000000000000 ≤ z * b → z * o ≤ c * 365000000000000000000 → a * o ≤ c * b
    cap_step a b o z c h k =
        let i : o * (a * 365000000000000000000) ≤ o * (z * b) = mul-le-mul_left o h in
        let j : b * (z * o) ≤ b * (c * 365000000000000000000) = mul-le-mul_left b k in
        le_of_mul-le-mul_right {m = a * o} {n = c * b} {k = 365000000000000000000} (omega arith) (lit< tt)

top : (f z : ℕ) → z ≤ 256 * 365000000000000000000 → cap_at f z ≤ 256 * 2 ^ f
top f z h = ceil_most (z * 2 ^ f) 365000000000000000000 (256 * 2 ^ f) (lit< tt) (omega (arith, mul-le-mul_right (2 ^ f) h))

least : (f d : ℕ) → 24 ≤ f → 365000000000000000000 ≤ d * 10000000 → 0 < (direct_ends f d).lo
least f d s h =
    let u : 2 ^ 24 ≤ 2 ^ f = pow-le-pow_right (lit< tt) s in
    let k : d * 2 ^ 24 ≤ d * 2 ^ f = mul-le-mul_left d u in
    le-div 1 (d * 2 ^ f) 365000000000000000000 (lit< tt) (omega (arith, k, h))

spread_out : (f d z : ℕ) → z ≤ 1024 * d → 0 < (direct_ends f d).lo → cap_at f z ≤ 2048 * (direct_ends f d).lo
spread_out f d z h p =
    let lo : ℕ = d * 2 ^ f / 365000000000000000000 in
    let m = mod_below (d * 2 ^ f) 365000000000000000000 (lit< tt) in
    let e = div-add-mod' (d * 2 ^ f) 365000000000000000000 in
    let k : z * 2 ^ f ≤ 1024 * d * 2 ^ f = mul-le-mul_right (2 ^ f) h in
    let c : cap_at f z ≤ 1024 * (d * 2 ^ f / 365000000000000000000 + 1) = ceil_most (z * 2 ^ f) 365000000000000000000 (1024 * (d * 2 ^ f / 365000000000000000000 + 1)) (lit< tt) (omega (arith, m, e, k)) in
    omega arith

below_cap : (f d z : ℕ) → d ≤ z → (direct_ends f d).lo ≤ cap_at f z
below_cap f d z h = floor_below_ceil (d * 2 ^ f) 365000000000000000000 (z * 2 ^ f) 365000000000000000000 (mul-le-mul_right (2 ^ f) h) (lit< tt) (le_refl 365000000000000000000)

nothing_cap : (f z : ℕ) → z ≡ 0 → cap_at f z ≡ 0
nothing_cap f z h = (let c = ceil_most (z * 2 ^ f) 365000000000000000000 0 (lit< tt) (let e = ap (λ y. y * 2 ^ f) h in omega (arith, e)) in omega (arith, c))

-- ---- pairs

-- stocks of a case have the pair of each of its parts and sites
pub pair_in : (c : CaseRows) (s : StockList) (p k : ℕ) → IsFor c s → p < length c.parts → k < length c.sites → HasPair s p k
pair_in c s p k for l m = grind (arith, for.sites, for.pairs, mul-le-mul_right (length c.sites) l)

-- valid inputs have accepted rates at each pair, and stocks within the limits
pub sound_of : (x : InputRows) → AreInputs x → IsSound x.case x.stocks.list
sound_of x h = record {
  valid = h.valid;
  pairs = λ p k l m. (let r = h.are_rates.pairs p k l m in subst (ArePairRates x.case p k) r.units r);
  allocation = stocks_allocation x.case x.stocks h.are_stocks.is_for h.are_stocks.limits;
}

-- rates that pass the checks make a pipeline whose cap isn't far above its direct part
pub pipeline_from_is : (f p k s : ℕ) (r : PairRates) → 24 ≤ f → s ≤ 63 → IsRated r.direct r.zero_stock → IsPipeline f (pipeline_from f p k r s)
pipeline_from_is f p k s r h few rated = record {
  some = elim rated.some [
    | inl e ↦ inl (nothing_cap f r.zero_stock e)
    | inr t ↦ let l = least f r.direct h t in inr (l, spread_out f r.direct r.zero_stock rated.ratio l)
  ];
  order = below_cap f r.direct r.zero_stock rated.order;
  direct_most = top f r.direct (omega (arith, rated.order, rated.most));
  cap_most = top f r.zero_stock rated.most;
  stock_most = few;
}

-- no stock is above 63
pub stock_most : (c : CaseRows) (s : List ℕ) (p k : ℕ) → IsSound c s → stock c s p k ≤ 63
stock_most c s p k h = allocation_reaches c s 62 h.valid h.allocation (le_refl 62) p k

-- each pair of a sound case has such a pipeline
pub pipeline_is : (f : ℕ) (c : CaseRows) (s : List ℕ) (p k : ℕ) → 24 ≤ f → IsSound c s → p < length c.parts → k < length c.sites → IsPipeline f (pipeline_of f c s p k)
pipeline_is f c s p k h sound lp lk =
    pipeline_from_is f p k (stock c s p k) (pair_rates c p k) h (stock_most c s p k sound) (rated c p k (pair_rates c p k) (sound.pairs p k lp lk))

-- ---- the numbers of a pair of inputs x, which are those that a contract sees as y

module _ (x y : InputRows) (p : PartId) (k : SiteId) (h : AreInputs x) (e : x ≡ y) (lp : p.0 < length y.case.parts) (lk : k.0 < length y.case.sites) where
  is_part : p.0 < length x.case.parts
  is_part = subst (λ (z : InputRows). p.0 < length z.case.parts) (sym e) lp

  is_site : k.0 < length x.case.sites
  is_site = subst (λ (z : InputRows). k.0 < length z.case.sites) (sym e) lk

  -- the pair has rates
  pub has_rates : HasRates x.rates p.0 k.0
  has_rates = h.are_rates.has p.0 k.0 is_part is_site

  -- which are those of its case
  pub its_rates : ArePairRates x.case p.0 k.0 (rates_at x.rates p.0 k.0)
  its_rates = h.are_rates.pairs p.0 k.0 is_part is_site

  -- the pair has a stock
  pub has_pair : HasPair x.stocks p.0 k.0
  has_pair = pair_in x.case x.stocks p.0 k.0 h.are_stocks.is_for is_part is_site

  -- which is at most 63
  pub few : (s : ℕ) → s ≡ stock_at x.stocks p.0 k.0 → s ≤ 63
  few s at = subst (λ n. n ≤ 63) (stock_holds x.case x.stocks p.0 k.0 h.are_stocks.is_for ∙ sym at) (stock_most x.case x.stocks.list p.0 k.0 (sound_of x h))

  -- stock and rates make the pair's pipeline
  pub pipeline_made : (f s d z cap : ℕ) (direct most : Ends) → s ≡ stock_at x.stocks p.0 k.0 → d ≡ (rates_at x.rates p.0 k.0).direct
      → z ≡ (rates_at x.rates p.0 k.0).zero_stock → direct ≡ ends_ratio f d pipeline_scale → most ≡ ends_ratio f z pipeline_scale → cap ≡ most.hi
      → ◌≡◌ {A = Pipeline f} (record { part = p; site = k; stock = s; direct = direct; cap = cap }) (pipeline_of f y.case y.stocks.list p.0 k.0)
  pipeline_made f s d z cap direct most at ds zs es ms top =
      let stocked : s ≡ stock x.case x.stocks.list p.0 k.0 = at ∙ sym (stock_holds x.case x.stocks p.0 k.0 h.are_stocks.is_for) in
      let begun : direct ≡ ends_ratio f (pair_rates x.case p.0 k.0).direct pipeline_scale =
      es ∙ ap (λ n. ends_ratio f n pipeline_scale) (ds ∙ ap (λ (r : PairRates). r.direct) its_rates.units) in
      let capped : cap ≡ (ends_ratio f (pair_rates x.case p.0 k.0).zero_stock pipeline_scale).hi =
      top ∙ ap (λ (a : Ends). a.hi) (ms ∙ ap (λ n. ends_ratio f n pipeline_scale) (zs ∙ ap (λ (r : PairRates). r.zero_stock) its_rates.units)) in
      subst (λ (z : InputRows). ◌≡◌ {A = Pipeline f} (record { part = p; site = k; stock = s; direct = direct; cap = cap }) (pipeline_of f z.case z.stocks.list p.0 k.0)) e
      (λ i. record { part = p; site = k; stock = stocked i; direct = begun i; cap = capped i })

  -- and the ratio of its share the pair's share
  pub share_made : (f n d : ℕ) (ends : Ends) → n ≡ (rates_at x.rates p.0 k.0).share.num → d ≡ (rates_at x.rates p.0 k.0).share.den → ends ≡ ends_ratio f n d
      → ends ≡ share_of f y.case p.0 k.0
  share_made f n d ends ns ds es =
      subst (λ (z : InputRows). ends ≡ share_of f z.case p.0 k.0) e
      (es ∙ rw (ns, ds) (ap (λ (r : PairRates). share_from f r) its_rates.units))

-- a share's upper end is at most 1
pub share_most : (f : ℕ) (r : PairRates) → r.share.num ≤ r.share.den → 0 < r.share.den → (share_from f r).hi ≤ 2 ^ f
share_most f r h p = ceil_most (r.share.num * 2 ^ f) r.share.den (2 ^ f) p (omega (arith, mul-le-mul_right (2 ^ f) h))

-- ---- what the ends of a pair contain

over_is : (num den : ℕ) (p : 0 < den) → over num den p ≈ whole num /ℚ whole den
unfolding whole
over_is num den p =
    turned (quotient_is (record { num = num; den = 1; positive = zero-lt-suc 0 }) (record { num = den; den = 1; positive = zero-lt-suc 0 }) p ≈≈ record { cross = omega arith })

direct_ends_in : (f d : ℕ) → In f (direct_ends f d) (in_pipeline d)
unfolding in_pipeline
direct_ends_in f d = ratio_encloses f d 365000000000000000000 (zero-lt-suc 364999999999999999999)

-- the ends of a pair's direct part contain the direct pipeline of the model
pub direct_in : (f : ℕ) (c : CaseRows) (p k : ℕ) → ArePairRates c p k (pair_rates c p k) → In f (direct_ends f (pair_rates c p k).direct) (direct c p k)
direct_in f c p k h = contains_same h.direct_is (direct_ends_in f (pair_rates c p k).direct)

share_from_in : (f : ℕ) (r : PairRates) → 0 < r.share.den → In f (share_from f r) (value r.share)
share_from_in f r p = contains_same (over_is r.share.num r.share.den p) (ratio_encloses f r.share.num r.share.den p)

-- the ends of a pair's share contain the share of the model
pub share_in : (f : ℕ) (c : CaseRows) (p k : ℕ) → ArePairRates c p k (pair_rates c p k) → In f (share_of f c p k) (share c p k)
share_in f c p k h = contains_same h.share_is (share_from_in f (pair_rates c p k) h.some_share)

-- what the zero-stock mean bounds is within the cap
pub cap_in : (f : ℕ) (c : CaseRows) (p k : ℕ) (q : Fraction) → ArePairRates c p k (pair_rates c p k) → q ≤ℚ zero_stock c p k
    → IsAtMost f (cap_at f (pair_rates c p k).zero_stock) q
cap_in f c p k q h l = within_cap f (pair_rates c p k).zero_stock q (le_same (same q) (turned h.zero_stock_is) l)

-- ---- tables

-- a sum is at least its first term at the lower end
pub added_least : (first : Ends) (part : ℕ → Ends) (n : ℕ) → first.lo ≤ (added first part n).lo
unfolding added
added_least first part zero = le_refl first.lo
added_least first part (suc n) = omega (arith, added_least first part n)

-- by a cap and what of the pipeline is direct
pub can_capped : (f cap : ℕ) (direct m v : Ends) → (cap ≡ 0) ⊎ ((0 < direct.lo) × (cap ≤ 2048 * direct.lo)) → direct.lo ≤ cap → cap ≤ 256 * 2 ^ f → direct.lo ≤ m.lo
    → HasTable f (capped_at f cap m v)
can_capped f cap direct m v some order most l = record {
  mean_top = omega (arith, most);
  variance_top = omega (arith, most);
  ratio = elim some [
    | inl e ↦ inl (omega (arith, e), omega (arith, e))
    | inr r ↦ inr (omega (arith, r.0, order, l), (omega (arith, r.0, r.1, order, l), omega (arith, r.0, r.1, order, l)))
  ];
}

-- a mean that begins at or above the direct part has a table once it is capped
pub can_table : (f : ℕ) (x : Pipeline f) (m v : Ends) → IsPipeline f x → x.direct.lo ≤ m.lo → HasTable f (capped_at f x.cap m v)
can_table f x m v h l = can_capped f x.cap x.direct m v h.some h.order h.cap_most l
