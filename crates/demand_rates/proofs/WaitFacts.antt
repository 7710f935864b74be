-- What shop units add, as a loop over the parts adds it up.
use Rattle.std.proofs.Common.{◌≡◌, ◌≢◌, ℕ, zero, suc, ◌+◌, ◌-◌, ◌*◌, ◌<◌, ◌≤◌, Bool, true, false, cond, List, [], ◌∷◌, ◌++◌, length, map, filter, get_or, replicate, sum_by, bytes_eq, Option, Some, None, inl, inr, refl, sym, ap, ◌∙◌, subst, arith, add-one, zero-add, le_trans, mul-le-mul_right, mul-le-mul_left}
use Rattle.std.specs.List.{range_with_len}
use Rattle.std.specs.Option.{option_map_or, option_and_then}
use Rattle.std.proofs.Math.Dec.{lit≤}
use Rattle.std.proofs.Math.ListN.{set, length-set}
use Rattle.std.proofs.Math.Seq.{get_or-append_seam}
use Rattle.std.proofs.lemmas.Bool.{cases_Bool, cases_lt, cases_eq}
use Rattle.std.proofs.lemmas.List.{get_or-map, length-map, length-replicate, get_or-replicate, get_or-set_same, get_or-set_other, get_or_past, get_or_append_left, map-append}
use Rattle.std.proofs.lemmas.Grind.{get_or_default_zero}
use Rattle.std.proofs.lemmas.List.Quantifiers.{position-Some}
use Rattle.std.proofs.lemmas.List.Sums.{sum_by-append, sum_by-cons}
use Rattle.std.proofs.lemmas.Slice.Eq.{bytes_eq-Decides}
use Rattle.std.proofs.lemmas.Nat.{mul-le}
use mir.Val.{Fits}
use mir.Syntax.{w128}
use Rattle.list_laws.proofs.Public.{later, zero_most}
use Rattle.exact_ratio.specs.declared.ratio.Ratio.{Ratio}
use Rattle.spares_input.specs.Rows.{is_line, no_part}
use Rattle.spares_input.specs.Frames.{is_shop_of, line_of, part_at, site_at, part_names, place_of, shops_below}
use Rattle.spares_input.specs.Cases.{CaseRows, IsCase, rate_at}
use Rattle.spares_input.specs.declared.rows.PartRow.{PartRow}
use Rattle.spares_input.specs.declared.rows.RateRow.{RateRow}
use Rattle.spares_input.proofs.Public.{no_shop_at}
use Rattle.fleet_model.proofs.Public.{same_part}
use Rattle.fleet_model.specs.Rows.{shop_units}
use Rattle.fleet_model.specs.Units.{demand_00, demand_i0, direct_units_00, needed_i0, zero_stock_units_00, zero_stock_units_ij}
use Rattle.demand_rates.specs.declared.kinds.PairRates.{PairRates}
use Rattle.demand_rates.specs.Rates.{rates_of_pair, share_ratio}
use Rattle.demand_rates.specs.Waits.{wait, wait_most, wait_sum, AreAllWaits, AreWaits}

-- ---- whose shop unit a part is

-- a line unit is a shop unit of none
pub line_of_none : (line r : PartRow) → is_line r ≡ true → is_shop_of line r ≡ false
line_of_none line r h = no_shop_at line r.parent h

-- a line unit's name, by the name of a shop unit's parent
named : (c : CaseRows) (l : ℕ) (o : Option (List ℕ)) → option_and_then (λ name. place_of name (part_names c.parts)) o ≡ Some l
    → (name : List ℕ) × (o ≡ Some name) × ((part_at c.parts l).name ≡ name)
named c l None h = cc
named c l (Some name) h =
    let found = position-Some (bytes_eq name) (part_names c.parts) l [] h in
    let within : l < length c.parts = omega (arith, found.0, length-map c.parts (λ (r : PartRow). r.name)) in
    (name, refl, sym ((bytes_eq-Decides name (get_or (part_names c.parts) l [])).0 found.1 ∙ get_or-map (λ (r : PartRow). r.name) c.parts l no_part [] within))

pub own_shop : (c : CaseRows) (p l : ℕ) → line_of c.parts p ≡ Some l → is_shop_of (part_at c.parts l) (part_at c.parts p) ≡ true
own_shop c p l h =
    let n = named c l (part_at c.parts p).parent h in
    ap (λ o. option_map_or (bytes_eq (part_at c.parts l).name) o false) n.1 ∙ (bytes_eq-Decides (part_at c.parts l).name n.0).1 n.2

named_alike : (name : List ℕ) (q : PartRow) (o : Option (List ℕ)) → o ≡ Some name → option_map_or (bytes_eq q.name) o false ≡ true → q.name ≡ name
named_alike name q o e h = (bytes_eq-Decides q.name name).0 (subst (λ o. option_map_or (bytes_eq q.name) o false ≡ true) e h)

-- a shop unit of one line unit is none of another part
pub other_shop : (c : CaseRows) (p l q : ℕ) → IsCase c → line_of c.parts p ≡ Some l → l < length c.parts → q < length c.parts → q ≢ l
    → is_shop_of (part_at c.parts q) (part_at c.parts p) ≡ false
other_shop c p l q h e wl wq ne =
    let n = named c l (part_at c.parts p).parent e in
    elim (cases_Bool (is_shop_of (part_at c.parts q) (part_at c.parts p))) [
      | inl t ↦ absurd (ne (same_part c q l h.frame wq wl (named_alike n.0 (part_at c.parts q) (part_at c.parts p).parent n.1 t ∙ sym n.2)))
      | inr f ↦ f
    ]

-- ---- one part more

alone : (a : ℕ) → a ≡ a + 0
alone a = omega arith

kept_step : (b : Bool) (x : ℕ) (xs ys : List ℕ) → cond b (x ∷ (xs ++ ys)) (xs ++ ys) ≡ cond b (x ∷ xs) xs ++ ys
kept_step true x xs ys = refl
kept_step false x xs ys = refl

nothing_before : (ys : List ℕ) → ys ≡ [] ++ ys
nothing_before ys = refl

listed : (t : ℕ → Bool) (a n : ℕ) → filter t (range_with_len a (suc n)) ≡ filter t (range_with_len a n) ++ cond (t (a + n)) ((a + n) ∷ []) []
listed t a zero = ap (λ x. cond (t x) (x ∷ []) []) (alone a) ∙ nothing_before (cond (t (a + 0)) ((a + 0) ∷ []) [])
listed t a (suc n) =
    let rest : filter t (range_with_len (a + 1) (suc n)) ≡ filter t (range_with_len (a + 1) n) ++ cond (t (a + suc n)) ((a + suc n) ∷ []) [] =
    listed t (a + 1) n ∙ ap (λ x. filter t (range_with_len (a + 1) n) ++ cond (t x) (x ∷ []) []) (later a n) in
    ap (λ r. cond (t a) (a ∷ r) r) rest ∙ kept_step (t a) a (filter t (range_with_len (a + 1) n)) (cond (t (a + suc n)) ((a + suc n) ∷ []) [])

one_sum : (g : ℕ → ℕ) (b : Bool) (x : ℕ) → sum_by g (cond b (x ∷ []) []) ≡ cond b (g x) 0
one_sum g true x = sum_by-cons g x [] ∙ omega arith
one_sum g false x = refl

sum_more : (g : ℕ → ℕ) (t : ℕ → Bool) (n : ℕ) → sum_by g (filter t (range_with_len 0 (n + 1))) ≡ sum_by g (filter t (range_with_len 0 n)) + cond (t n) (g n) 0
sum_more g t n =
    ap (λ m. sum_by g (filter t (range_with_len 0 m))) (add-one n)
    ∙ ap (λ xs. sum_by g xs) (listed t 0 n)
    ∙ sum_by-append g (filter t (range_with_len 0 n)) (cond (t (0 + n)) ((0 + n) ∷ []) [])
    ∙ ap (λ m. sum_by g (filter t (range_with_len 0 n)) + m) (one_sum g (t (0 + n)) (0 + n))
    ∙ ap (λ x. sum_by g (filter t (range_with_len 0 n)) + cond (t x) (g x) 0) (zero-add n)

-- the sums over the parts below p, as they stand in a loop
pub record AreWaitsBelow (c : CaseRows) (k p : ℕ) (sums : List ℕ) : Type 0 where
  pub count : length sums ≡ length c.parts
  pub each : (q : ℕ) → q < length c.parts → get_or sums q 0 ≡ sum_by (wait c q k) (shops_below c.parts q p)
  pub small : (q : ℕ) → get_or sums q 0 ≤ p * wait_most k

zero_at : (n q : ℕ) (xs : List ℕ) → xs ≡ replicate n 0 → length xs ≡ n → get_or xs q 0 ≡ 0
zero_at n q xs e l = elim (cases_lt q n) [
  | inl i ↦ ap (λ ys. get_or ys q 0) e ∙ get_or-replicate n q 0 0 i
  | inr i ↦ get_or_past xs q 0 (omega (arith, l, i))
]

-- before the first part there are no waits
pub waits_none : (c : CaseRows) (k n : ℕ) (xs : List ℕ) → xs ≡ replicate n 0 → n ≡ length c.parts → AreWaitsBelow c k 0 xs
waits_none c k n xs e count =
    let len : length xs ≡ n = ap (λ (ys : List ℕ). length ys) e ∙ length-replicate n 0 in
    record {
      count = len ∙ count;
      each = λ q l. zero_at n q xs e len;
      small = λ q. zero_most (get_or xs q 0) (0 * wait_most k) (zero_at n q xs e len);
    }

-- after the last part the waits are those of the site
pub waits_done : (c : CaseRows) (k n p : ℕ) (xs : List ℕ) → IsCase c → n ≡ length c.parts → n ≤ p → p ≤ n → AreWaitsBelow c k p xs → AreWaits c k xs
waits_done c k n p xs v count past within h =
    let all : p ≡ length c.parts = omega (arith, past, within, count) in
    record {
      count = h.count;
      each = λ q l. h.each q l ∙ ap (λ m. sum_by (wait c q k) (shops_below c.parts q m)) all;
      small = λ q. le_trans (h.small q) (mul-le-mul_right (wait_most k) (subst (λ m. m ≤ 2000) (sym all) v.frame.most_parts));
    }

most_small : (k : ℕ) → wait_most k ≤ 3000000000000000000000000000
most_small zero = lit≤ tt
most_small (suc j) = lit≤ tt

sum_small : (n m w : ℕ) → n ≤ m → m ≤ 6000000000000000000000000000000 → w ≤ 3000000000000000000000000000 → Fits w128 (n + w)
sum_small n m w few most more = omega (arith, few, most, more)

-- the sum of so many waits, with one more, fits 128 bits
pub wait_fits : (c : CaseRows) (k p n l now w : ℕ) (xs : List ℕ) → IsCase c → n ≡ length c.parts → p < n → l < length c.parts → now ≡ get_or xs l now
    → w ≤ wait_most k → AreWaitsBelow c k p xs → Fits w128 (now + w)
wait_fits c k p n l now w xs v count within wl read most h =
    let at : now ≡ get_or xs l 0 = read ∙ get_or_default_zero xs l now (subst (λ m. l < m) (sym h.count) wl) in
    let few : p ≤ 2000 = omega (arith, within, count, v.frame.most_parts) in
    sum_small now (p * wait_most k) w (subst (λ m. m ≤ p * wait_most k) (sym at) (h.small l))
    (mul-le p (wait_most k) 2000 3000000000000000000000000000 few (most_small k)) (le_trans most (most_small k))

-- a line unit adds nothing to the waits of the parts so far
pub waits_same : (c : CaseRows) (k p : ℕ) (xs : List ℕ) → is_line (part_at c.parts p) ≡ true → AreWaitsBelow c k p xs → AreWaitsBelow c k (p + 1) xs
waits_same c k p xs line h = record {
  count = h.count;
  each = λ q w.
      h.each q w ∙ alone (sum_by (wait c q k) (shops_below c.parts q p))
      ∙ ap (λ b. sum_by (wait c q k) (shops_below c.parts q p) + cond b (wait c q k p) 0) (sym (line_of_none (part_at c.parts q) (part_at c.parts p) line))
      ∙ sym (sum_more (wait c q k) (λ i. is_shop_of (part_at c.parts q) (part_at c.parts i)) p);
  small = λ q. omega (arith, h.small q);
}

added_at : (c : CaseRows) (k p l w : ℕ) (xs : List ℕ) → line_of c.parts p ≡ Some l → l < length c.parts → w ≡ wait c l k p → AreWaitsBelow c k p xs
    → get_or xs l 0 + w ≡ sum_by (wait c l k) (shops_below c.parts l (p + 1))
added_at c k p l w xs e wl t h =
    ap (λ n. n + w) (h.each l wl) ∙ ap (λ n. sum_by (wait c l k) (shops_below c.parts l p) + n) t
    ∙ ap (λ b. sum_by (wait c l k) (shops_below c.parts l p) + cond b (wait c l k p) 0) (sym (own_shop c p l e))
    ∙ sym (sum_more (wait c l k) (λ i. is_shop_of (part_at c.parts l) (part_at c.parts i)) p)

kept_at : (c : CaseRows) (k p l q : ℕ) (xs : List ℕ) → IsCase c → line_of c.parts p ≡ Some l → l < length c.parts → q < length c.parts → q ≢ l
    → AreWaitsBelow c k p xs → get_or xs q 0 ≡ sum_by (wait c q k) (shops_below c.parts q (p + 1))
kept_at c k p l q xs v e wl wq ne h =
    h.each q wq ∙ alone (sum_by (wait c q k) (shops_below c.parts q p))
    ∙ ap (λ b. sum_by (wait c q k) (shops_below c.parts q p) + cond b (wait c q k p) 0) (sym (other_shop c p l q v e wl wq ne))
    ∙ sym (sum_more (wait c q k) (λ i. is_shop_of (part_at c.parts q) (part_at c.parts i)) p)

pub waits_more : (c : CaseRows) (k p l w : ℕ) (xs : List ℕ) → IsCase c → line_of c.parts p ≡ Some l → l < length c.parts → w ≡ wait c l k p → w ≤ wait_most k
    → AreWaitsBelow c k p xs → AreWaitsBelow c k (p + 1) (set xs l (get_or xs l 0 + w))
waits_more c k p l w xs v e wl t most h =
    let within : l < length xs = omega (arith, h.count, wl) in
    record {
      count = length-set xs l (get_or xs l 0 + w) ∙ h.count;
      each = λ q wq. elim (cases_eq q l) [
        | inl s ↦ subst (λ m. get_or (set xs l (get_or xs l 0 + w)) m 0 ≡ sum_by (wait c m k) (shops_below c.parts m (p + 1))) (sym s)
            (get_or-set_same xs l (get_or xs l 0 + w) 0 within ∙ added_at c k p l w xs e wl t h)
        | inr ne ↦ get_or-set_other xs l q (get_or xs l 0 + w) 0 ne ∙ kept_at c k p l q xs v e wl wq ne h
      ];
      small = λ q. elim (cases_eq q l) [
        | inl s ↦ subst (λ m. get_or (set xs l (get_or xs l 0 + w)) m 0 ≤ (p + 1) * wait_most k) (sym s)
            (omega (arith, get_or-set_same xs l (get_or xs l 0 + w) 0 within, h.small l, most))
        | inr ne ↦ omega (arith, get_or-set_other xs l q (get_or xs l 0 + w) 0 ne, h.small q)
      ];
    }

-- a shop unit adds its wait to the sum of its line unit alone
pub waits_written : (c : CaseRows) (k p l w now : ℕ) (xs ys : List ℕ) → IsCase c → Some l ≡ line_of c.parts p → l < length c.parts
    → w ≡ wait c l k p → w ≤ wait_most k → now ≡ get_or xs l now → ys ≡ set xs l (now + w) → AreWaitsBelow c k p xs → AreWaitsBelow c k (p + 1) ys
waits_written c k p l w now xs ys v e wl t most read written h =
    let at : now ≡ get_or xs l 0 = read ∙ get_or_default_zero xs l now (omega (arith, h.count, wl)) in
    subst (λ zs. AreWaitsBelow c k (p + 1) zs) (sym (written ∙ ap (λ n. set xs l (n + w)) at)) (waits_more c k p l w xs v (sym e) wl t most h)

-- ---- site by site

-- with the sums of the next site appended, each site so far has the sums of its own
pub waits_pushed : {V : Type 0} (f : V → List ℕ) (c : CaseRows) (k : ℕ) (xs ys : List V) (x : V) → ys ≡ xs ++ x ∷ [] → length xs ≡ k
    → ((j : ℕ) → j < k → AreWaits c j (get_or (map f xs) j [])) → AreWaits c k (f x)
    → (j : ℕ) → j < k + 1 → AreWaits c j (get_or (map f ys) j [])
waits_pushed f c k xs ys x e n before here j l =
    let image : map f ys ≡ map f xs ++ f x ∷ [] = ap (λ zs. map f zs) e ∙ map-append f xs (x ∷ []) in
    let count : length (map f xs) ≡ k = length-map xs f ∙ n in
    subst (λ zs. AreWaits c j (get_or zs j [])) (sym image)
    (elim (cases_eq j k) [
      | inl s ↦ subst (λ m. AreWaits c m (get_or (map f xs ++ f x ∷ []) m [])) (sym s)
          (subst (λ zs. AreWaits c k zs) (sym (ap (λ m. get_or (map f xs ++ f x ∷ []) m []) (sym count) ∙ get_or-append_seam (map f xs) (f x) [] [])) here)
      | inr ne ↦ subst (λ zs. AreWaits c j zs) (sym (get_or_append_left (map f xs) (f x ∷ []) [] j (omega (arith, count, l, ne)))) (before j (omega (arith, l, ne)))
    ])

module _ {V : Type 0} (f : V → List ℕ) (c : CaseRows) (xs : List V) where
  -- after the last site all sums are there
  pub all_waits_done : (n k : ℕ) → n ≡ length c.sites → n ≤ k → k ≤ n → length xs ≡ k → ((j : ℕ) → j < k → AreWaits c j (get_or (map f xs) j []))
      → AreAllWaits c (map f xs)
  all_waits_done n k count past within len each =
      let all : k ≡ length c.sites = omega (arith, past, within, count) in
      record { count = length-map xs f ∙ len ∙ all; each = λ j l. each j (subst (λ m. j < m) (sym all) l) }

  module _ (h : AreAllWaits c (map f xs)) (k : ℕ) (site : k < length c.sites) where
    -- the sums have an entry for each site
    pub site_there : k < length xs
    site_there = subst (λ n. k < n) (sym h.count ∙ length-map xs f) site

    module _ (l : ℕ) (part : l < length c.parts) where
      -- and in it one for each part
      pub part_there : l < length (get_or (map f xs) k [])
      part_there = subst (λ n. l < n) (sym (h.each k site).count) part

      -- which is the sum of that part
      pub wait_there : (w : ℕ) → w ≡ get_or (get_or (map f xs) k []) l 0 → w ≡ wait_sum c l k
      wait_there w e = e ∙ (h.each k site).each l part

      -- and within its limit
      pub wait_few : (w : ℕ) → w ≡ get_or (get_or (map f xs) k []) l 0 → w ≤ 2000 * wait_most k
      wait_few w e = subst (λ n. n ≤ 2000 * wait_most k) (sym e) ((h.each k site).small l)

-- at any site
pub base_wait_few : (w k : ℕ) → w ≤ 2000 * wait_most k → w ≤ 6000000000000000000000000000000
base_wait_few w k h = le_trans h (mul-le-mul_left 2000 (most_small k))

-- ---- the depot's line unit

factored : (g h : ℕ → ℕ) (a b : ℕ) (xs : List ℕ) → ((i : ℕ) → g i ≡ a * h i * b) → sum_by g xs ≡ a * sum_by h xs * b
factored g h a b [] e = omega arith
factored g h a b (x ∷ xs) e = omega (arith, sum_by-cons g x xs, ap (λ n. a * n * b) (sum_by-cons h x xs), e x, factored g h a b xs e)

each_factored : (d s t : ℕ) → d * s * t * 10000 ≡ d * (s * t) * 10000
each_factored d s t = omega arith

pub depot_mean : (c : CaseRows) (l : ℕ) → zero_stock_units_00 c l ≡ direct_units_00 c l + demand_00 c l * wait_sum c l 0 * 10000
depot_mean c l =
    ap (λ n. direct_units_00 c l + n)
    (factored (λ i. needed_i0 c l i * (rate_at c i 0).repair_days * 10000) (wait c l 0) (demand_00 c l) 10000 (shop_units c l)
    (λ i. each_factored (demand_00 c l) (rate_at c i 0).share (rate_at c i 0).repair_days))

-- demand, direct part and the waits of its shop units make the rates of a line unit at the depot
pub depot_line_holds : (c : CaseRows) (l direct demand wait : ℕ) → demand ≡ demand_00 c l → direct ≡ direct_units_00 c l → wait ≡ wait_sum c l 0
    → ◌≡◌ {A = PairRates} (record { demand = record { num = demand; den = 100000000 }; share = record { num = 1; den = 1 }; direct = direct; zero_stock = direct + demand * wait * 10000 })
    (rates_of_pair c None l 0)
depot_line_holds c l direct demand wait d e w =
    let mean : direct + demand * wait * 10000 ≡ zero_stock_units_00 c l = rw (d, e, w) (sym (depot_mean c l)) in
    λ i. record { demand = record { num = d i; den = 100000000 }; share = record { num = 1; den = 1 }; direct = e i; zero_stock = mean i }

-- ---- a base

-- the rates of a line unit at a base, as they are computed from the rows of base and depot, order and shipment, and the waits
pub base_line_holds : (c : CaseRows) (l j demand num ship days sent depot repair depot_wait from_depot here : ℕ) (row : RateRow) (share : Ratio) → 0 < j
    → row ≡ rate_at c l j → ship ≡ (site_at c.sites j).ship → demand ≡ row.demand → num ≡ row.demand
    → days ≡ (10000 - row.repair_here) * ship + row.repair_here * row.repair_days → sent ≡ row.demand * (10000 - row.repair_here) → depot ≡ demand_00 c l
    → share ≡ share_ratio sent depot → repair ≡ (rate_at c l 0).repair_days → depot_wait ≡ wait_sum c l 0
    → from_depot ≡ sent * (repair * 10000 + depot_wait) * 10000 → here ≡ wait_sum c l j
    → ◌≡◌ {A = PairRates} (record { demand = record { num = num; den = 10000 }; share = share; direct = demand * days * 100000000; zero_stock = demand * days * 100000000 + from_depot + here })
    (rates_of_pair c None l j)
base_line_holds c l zero demand num ship days sent depot repair depot_wait from_depot here row share past r o d m t s q h p v z w = absurd (omega (arith, past))
base_line_holds c l (suc j) demand num ship days sent depot repair depot_wait from_depot here row share past r o d m t s q h p v z w =
    rw (w, z, v, p, h, q, s, t, m, d, o, r) refl

-- the rates of a shop unit at a base, from the rows of its line unit and of itself
pub base_shop_holds : (c : CaseRows) (l i j demand ship days sent depot mean : ℕ) (line_row row : RateRow) (share : Ratio) → 0 < j
    → line_row ≡ rate_at c l j → row ≡ rate_at c i j → ship ≡ (site_at c.sites j).ship → demand ≡ line_row.demand * line_row.repair_here * row.share
    → days ≡ (10000 - row.repair_here) * ship + row.repair_here * row.repair_days
    → sent ≡ line_row.demand * line_row.repair_here * row.share * (10000 - row.repair_here) → depot ≡ demand_i0 c l i → share ≡ share_ratio sent depot
    → mean ≡ zero_stock_units_ij c l i j
    → ◌≡◌ {A = PairRates} (record { demand = record { num = demand; den = 1000000000000 }; share = share; direct = demand * days; zero_stock = mean })
    (rates_of_pair c (Some l) i j)
base_shop_holds c l i zero demand ship days sent depot mean line_row row share past b r o d t s q h z = absurd (omega (arith, past))
base_shop_holds c l i (suc j) demand ship days sent depot mean line_row row share past b r o d t s q h z =
    rw (z, h, q, s, t, d, o, r, b) refl
