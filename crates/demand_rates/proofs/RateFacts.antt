-- The rates of a case are the model's numbers, and where none is refused they are within their limits.
use Rattle.std.proofs.Common.{◌≡◌, ℕ, zero, suc, ◌+◌, ◌-◌, ◌*◌, ◌/◌, ◌%◌, ◌^◌, ◌<◌, ◌≤◌, Bool, true, false, ◌&&◌, nat_lt, Option, Some, None, if◌then◌else◌, List, length, get_or, sum_by, refl, sym, ap, ◌∙◌, subst, arith, zero-lt-suc, lt-ltb, ltb-false, zero-add}
use Rattle.std.specs.List.{range_with_len}
use Rattle.std.proofs.lemmas.Nat.{div-mul-add, mod-mul-add}
use Rattle.std.proofs.lemmas.List.Sums.{get_or-le-sum_by}
use Rattle.std.proofs.lemmas.List.FromFn.{get_or-range_with_len, length-range_with_len, get_or-map-range_with_len, length-map-range_with_len}
use Rattle.list_laws.proofs.Public.{place_fits}
use Rattle.exact_model.specs.Fraction.{whole, ◌≈◌, ◌/ℚ◌, scaled}
use Rattle.exact_model.proofs.Public.{same, turned, ◌≈≈◌}
use Rattle.spares_input.proofs.Public.{first_none}
use Rattle.spares_input.specs.Frames.{line_of}
use Rattle.spares_input.specs.Pairs.{part_of_place, site_of_place}
use Rattle.spares_input.specs.Cases.{CaseRows, IsCase, frame_rows, pair_count}
use Rattle.spares_input.specs.declared.rows.PartId.{PartId}
use Rattle.spares_input.specs.declared.rows.SiteId.{SiteId}
use Rattle.fleet_model.specs.Units.{bottom_of, demand_units, direct_units, pipeline_scale, sent_0j, sent_ij, share_bottom, share_top, top_of, zero_stock_units}
use Rattle.fleet_model.proofs.Public.{units_of_demand, share_units, units_of_direct, units_of_zero_stock}
use Rattle.demand_rates.specs.declared.fault.Place.{Place}
use Rattle.demand_rates.specs.declared.fault.Place.TheVariants.{Pair}
use Rattle.demand_rates.specs.declared.kinds.PairRates.{PairRates}
use Rattle.demand_rates.specs.Limits.{pair_fault, pipeline_rule, place_fault, rate_fault_of, IsAccepted}
use Rattle.demand_rates.specs.RateLists.{RateList, no_rates}
use Rattle.demand_rates.specs.Rates.{all_rates, pair_rates, place_rates, share_ratio, value, ArePairRates, AreRatesOf}
use Rattle.demand_rates.proofs.Within.{demand_00_most, demand_i0_most}

-- ---- a pair at its place, as a loop finds it

-- the rule that a pair's rates break is the rule of its place
pub fault_at : (c : CaseRows) (n i : ℕ) (part : PartId) (site : SiteId) (r : PairRates) → n ≡ length c.sites
    → part ≡ part_of_place n i → site ≡ site_of_place n i → r ≡ pair_rates c part.0 site.0
    → pipeline_rule (Pair part site) r.demand.num r.direct r.zero_stock ≡ place_fault c i
fault_at c n i part site r e p s t =
    ap (λ (r : PairRates). pipeline_rule (Pair part site) r.demand.num r.direct r.zero_stock) t
    ∙ ap (λ (q : PartId). pair_fault c q site) p
    ∙ ap (λ (q : SiteId). pair_fault c (part_of_place n i) q) s
    ∙ ap (λ m. pair_fault c (part_of_place m i) (site_of_place m i)) e

-- the rates of a pair are the rates of its place
pub rates_of_place : (c : CaseRows) (n i : ℕ) (part : PartId) (site : SiteId) (r : PairRates) → n ≡ length c.sites
    → part ≡ part_of_place n i → site ≡ site_of_place n i → r ≡ pair_rates c part.0 site.0 → r ≡ place_rates c i
rates_of_place c n i part site r e p s t =
    t
    ∙ ap (λ (q : PartId). pair_rates c q.0 site.0) p
    ∙ ap (λ (q : SiteId). pair_rates c (part_of_place n i).0 q.0) s
    ∙ ap (λ m. pair_rates c (part_of_place m i).0 (site_of_place m i).0) e

-- ---- shares

next : (j : ℕ) → 1 + j ≡ suc j
next j = omega arith

term : (g : ℕ → ℕ) (n j : ℕ) → j < n → g (suc j) ≤ sum_by g (range_with_len 1 n)
term g n j l =
    subst (λ x. g x ≤ sum_by g (range_with_len 1 n)) (get_or-range_with_len 1 n j 0 l ∙ next j)
    (get_or-le-sum_by g (range_with_len 1 n) j 0 (omega (arith, l, length-range_with_len 1 n)))

top_most : (c : CaseRows) (o : Option ℕ) (p k : ℕ) → k < length c.sites → top_of c o p k ≤ bottom_of c o p k
top_most c (Some l) p zero h = omega arith
top_most c None p zero h = omega arith
top_most c (Some l) p (suc j) h = omega (arith, term (sent_ij c l p) (length c.sites - 1) j (omega (arith, h)))
top_most c None p (suc j) h = term (sent_0j c p) (length c.sites - 1) j (omega (arith, h))

bottom_small : (c : CaseRows) (o : Option ℕ) (p k : ℕ) → IsCase c → bottom_of c o p k ≤ 30000000000000000000000
bottom_small c (Some l) p zero h = demand_i0_most c l p h
bottom_small c None p zero h = omega arith
bottom_small c (Some l) p (suc j) h = demand_i0_most c l p h
bottom_small c None p (suc j) h = omega (arith, demand_00_most c p h)

ratio_most : (top bottom : ℕ) → top ≤ bottom → (share_ratio top bottom).num ≤ (share_ratio top bottom).den
ratio_most top zero h = omega arith
ratio_most top (suc n) h = h

ratio_some : (top bottom : ℕ) → 0 < (share_ratio top bottom).den
ratio_some top zero = zero-lt-suc 0
ratio_some top (suc n) = zero-lt-suc n

ratio_small : (top bottom : ℕ) → bottom ≤ 30000000000000000000000 → (share_ratio top bottom).den ≤ 2 ^ 75
ratio_small top zero h = omega arith
ratio_small top (suc n) h = omega (arith, h)

none_value : (top : ℕ) → whole 0 /ℚ whole 1 ≈ whole top /ℚ whole 0
unfolding whole ◌/ℚ◌ scaled
none_value top = record { cross = refl }

ratio_value : (top bottom : ℕ) → value (share_ratio top bottom) ≈ whole top /ℚ whole bottom
ratio_value top zero = none_value top
ratio_value top (suc n) = same (whole top /ℚ whole (suc n))

-- ---- what an accepted pair keeps

all_none : {A : Type 0} (a b c : Bool) (x y z : A) → (if a then Some x else if b then Some y else if c then Some z else None) ≡ None
    → (a ≡ false) × (b ≡ false) × (c ≡ false)
all_none true b c x y z h = cc
all_none false true c x y z h = cc
all_none false false true x y z h = cc
all_none false false false x y z h = (refl, refl, refl)

not_both : (a b : Bool) → (a && b) ≡ false → a ≡ true → b ≡ false
not_both true b h e = h
not_both false b h e = cc

rule_accepts : (at : Place) (demand direct mean : ℕ) → pipeline_rule at demand direct mean ≡ None → IsAccepted demand direct mean
rule_accepts at demand direct mean h =
    let none = all_none (nat_lt 0 demand && nat_lt (direct * 10000000) pipeline_scale) (nat_lt (256 * pipeline_scale) mean) (nat_lt (1024 * direct) mean) _ _ _ h in
    record {
      thick = λ some. ltb-false (direct * 10000000) pipeline_scale (not_both (nat_lt 0 demand) (nat_lt (direct * 10000000) pipeline_scale) none.0 (lt-ltb 0 demand some));
      small = ltb-false (256 * pipeline_scale) mean none.1;
      ratio = ltb-false (1024 * direct) mean none.2;
    }

-- ---- by pair

accepted : (c : CaseRows) (p k : ℕ) → rate_fault_of c ≡ None → p < length c.parts → k < length c.sites
    → IsAccepted (demand_units c p k) (direct_units c p k) (zero_stock_units c p k)
accepted c p k h l m =
    let n : ℕ = length c.sites in
    let i : ℕ = p * length c.sites + k in
    let none : place_fault c (p * length c.sites + k) ≡ None =
    first_none (place_fault c) (pair_count (frame_rows c)) (p * length c.sites + k) h (place_fits p k (length c.parts) (length c.sites) l m) in
    let found = rule_accepts _ _ _ _ none in
    subst (λ q. IsAccepted (demand_units c q k) (direct_units c q k) (zero_stock_units c q k)) (div-mul-add p (length c.sites) k m)
    (subst (λ q. IsAccepted (demand_units c ((p * length c.sites + k) / length c.sites) q) (direct_units c ((p * length c.sites + k) / length c.sites) q) (zero_stock_units c ((p * length c.sites + k) / length c.sites) q))
    (mod-mul-add p (length c.sites) k m) found)

pair_model : (c : CaseRows) (p k : ℕ) → IsCase c → rate_fault_of c ≡ None → p < length c.parts → k < length c.sites → ArePairRates c p k (pair_rates c p k)
pair_model c p k v h l m = record {
  units = refl;
  demand_is = turned (units_of_demand c p k);
  share_is = ratio_value (share_top c p k) (share_bottom c p k) ≈≈ turned (share_units c p k);
  direct_is = turned (units_of_direct c p k);
  zero_stock_is = turned (units_of_zero_stock c p k);
  accepted = accepted c p k h l m;
  share_most = ratio_most (share_top c p k) (share_bottom c p k) (top_most c (line_of c.parts p) p k m);
  some_share = ratio_some (share_top c p k) (share_bottom c p k);
  share_small = ratio_small (share_top c p k) (share_bottom c p k) (bottom_small c (line_of c.parts p) p k v);
}

-- the rates of a pair stand at its place
place_is : (c : CaseRows) (p k : ℕ) → p < length c.parts → k < length c.sites → get_or (all_rates c) (p * length c.sites + k) no_rates ≡ pair_rates c p k
place_is c p k l m =
    get_or-map-range_with_len (place_rates c) 0 (pair_count (frame_rows c)) (p * length c.sites + k) (p * length c.sites + k) no_rates
    (place_fits p k (length c.parts) (length c.sites) l m) (zero-add (p * length c.sites + k))
    ∙ ap (λ q. pair_rates c q ((p * length c.sites + k) % length c.sites)) (div-mul-add p (length c.sites) k m)
    ∙ ap (λ q. pair_rates c p q) (mod-mul-add p (length c.sites) k m)

list_model : (c : CaseRows) → IsCase c → rate_fault_of c ≡ None → AreRatesOf c (record { sites = length c.sites; pairs = all_rates c })
list_model c v h = record {
  no_fault = h;
  sites = refl;
  has = λ p k l m. record {
    site = m;
    within = subst (λ n. p * length c.sites + k < n) (sym (length-map-range_with_len (place_rates c) 0 (pair_count (frame_rows c))))
        (place_fits p k (length c.parts) (length c.sites) l m);
  };
  pairs = λ p k l m. subst (λ r. ArePairRates c p k r) (sym (place_is c p k l m)) (pair_model c p k v h l m);
}

-- the rates of a valid case that break no rule are the model's, within their limits
pub rates_model : (c : CaseRows) (r : RateList) (n : ℕ) (xs : List PairRates) → IsCase c → rate_fault_of c ≡ None → r ≡ record { sites = n; pairs = xs }
    → n ≡ length c.sites → xs ≡ all_rates c → AreRatesOf c r
rates_model c r n xs v h e f g =
    subst (λ r. AreRatesOf c r) (sym (e ∙ (λ i. record { sites = f i; pairs = g i }))) (list_model c v h)
