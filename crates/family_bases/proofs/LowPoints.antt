-- Lower bounds on the Lagrangians of a base and of the depot's stocks.
use Rattle.std.proofs.Common.{◌≡◌, ℕ, suc, ◌+◌, ◌-◌, ◌*◌, ◌^◌, ◌<◌, ◌≤◌, inl, inr, List, [], ◌∷◌, length, drop, get_or, map, take, sym, ap, ap₂, ◌∙◌, subst, arith, mul-le-mul_left, mul-le-mul_right}
use Rattle.std.specs.List.{range_with_len}
use Rattle.std.proofs.lemmas.Bool.{cases_lt}
use Rattle.std.proofs.lemmas.List.{take_all}
use Rattle.list_laws.proofs.Public.{begins_with_first, take_next}
use Rattle.spares_input.specs.Frames.{part_at}
use Rattle.fixed_interval.specs.Ends.{Ends, IsWithinLimit}
use Rattle.backorder_bounds.specs.Places.{low_end}
use Rattle.fleet_model.specs.Fleet.{family}
use Rattle.fleet_model.specs.Laws.{IsBase}
use Rattle.fleet_model.specs.Rows.{systems, per_system, weight}
use Rattle.family_items.specs.Profile.{item_of}
use Rattle.family_numbers.specs.Numbers.{base_backorders}
use Rattle.family_numbers.proofs.Public.{backorders_alone}
use Rattle.hull.specs.declared.point.Point.{Point}
use Rattle.hull.specs.declared.price.Price.{Price}
use Rattle.hull.specs.Curves.{lagrangian, Among, sums}
use Rattle.hull.specs.Scores.{LeavesRoom}
use Rattle.hull.proofs.Public.{Flattened, Mapped, among_flattened, among_mapped, range_has, among_either}
use Rattle.family_points.specs.Vectors.{between, vectors}
use Rattle.family_points.specs.Points.{ScoreEnds, cost_above}
use Rattle.family_points.specs.Separation.{base_point, base_points, base_stocks, depot_and_base, depot_point, points_over}
use Rattle.family_points.specs.Inputs.{AreShopsAt, FamilyBox, IsAt, IsFamilyBox, held_at, line_high, line_low, shop_high, shop_low, shop_vectors}
use Rattle.family_points.specs.Least.{AreAtLeast}
use Rattle.family_rows.specs.Tabled.{box_numbers}
use Rattle.family_bases.specs.declared.lows.Lows.{Lows}
use Rattle.family_bases.specs.Lows.{AreNoHigher, AreUnder, IsReached, line_place, lower_of}
use Rattle.family_points.proofs.Public.{at_long, family_stocks_in, at_least_sums, base_small, high_begins, joined_at, low_begins, over_more, backorders_small, at_base, line_dearer}

-- a score that is at most the point's, and no larger than any score
pub record IsLowScore (scored : ℕ) (v : Point) : Type 0 where
  pub low : scored ≤ v.lo
  pub most : scored ≤ 2 ^ 74

-- the table's backorders at a stock of the line unit are those of the model's item
place_tabled : (x : FamilyBox) (valid : IsFamilyBox x) (j : ℕ) (d b : List ℕ) (s : ℕ) → IsBase x.case j → IsAt x 0 d → IsAt x j (s ∷ b)
    → low_end 48 (line_place x d j b s) ≡ (item_of 48 x.case (base_stocks x d j (s ∷ b)) x.line j).backorders.lo
place_tabled x valid j d b s base h g =
    let some = valid.valid.frame.fewest_sites in
    let own : ℕ → List ℕ = depot_and_base d j (s ∷ b) in
    let depot_long = at_long x valid 0 d (omega (arith, some)) h in
    let item : base_backorders 48 (box_numbers x) j (get_or d 0 0) (drop 1 d) b s ≡ (item_of 48 x.case (base_stocks x d j (s ∷ b)) x.line j).backorders =
    sym (backorders_alone 48 x.case x.line j (base_stocks x d j (s ∷ b)) (get_or d 0 0) (drop 1 d) s b valid.is_line base.0 base.1
    (family_stocks_in x.case x.line own 0 valid.valid valid.is_line (omega (arith, some)) depot_long ∙ sym (begins_with_first d (omega (arith, depot_long))))
    (family_stocks_in x.case x.line own j valid.valid valid.is_line base.1 (ap length (at_base d j (s ∷ b) base.0) ∙ at_long x valid j (s ∷ b) base.1 g)
    ∙ at_base d j (s ∷ b) base.0)) in
    ap (λ (e : Ends). e.lo) item

-- a score that is at most that of all backorders from a lower bound on is one of the point of the bound's stocks
pub score_at : (x : FamilyBox) (valid : IsFamilyBox x) (ends : ScoreEnds) → LeavesRoom ends → (d : List ℕ) → IsAt x 0 d → (j s : ℕ) (v : List ℕ) → IsBase x.case j
    → IsAt x j (s ∷ v) → (bound scored : ℕ) → bound ≤ low_end 48 (line_place x d j v s)
    → ((e : Ends) → IsWithinLimit 48 e → bound ≤ e.lo → scored ≤ (ends (systems x.case j) (per_system x.case x.line) (weight x.case x.line) e).lo)
    → IsLowScore scored (base_point ends x d j (s ∷ v))
score_at x valid ends room d at_depot j s v base at bound scored is under =
    let item = item_of 48 x.case (base_stocks x d j (s ∷ v)) x.line j in
    let below : bound ≤ item.backorders.lo = subst (λ n. bound ≤ n) (place_tabled x valid j d v s base at_depot at) is in
    let here : scored ≤ (base_point ends x d j (s ∷ v)).lo = under item.backorders (backorders_small x valid j d (s ∷ v) at_depot at base) below in
    let small = base_small x valid ends room d at_depot j (s ∷ v) base at in
    let order = small.ends in let most = small.room in
    record { low = here; most = omega (arith, here, order, most) }

-- the same of stocks within their bounds
pub score_under : (x : FamilyBox) (valid : IsFamilyBox x) (ends : ScoreEnds) → LeavesRoom ends → (d : List ℕ) → IsAt x 0 d → (j s : ℕ) (v : List ℕ) → IsBase x.case j
    → AreShopsAt x j v → line_low x j ≤ s → s ≤ line_high x j → (bound scored : ℕ) → bound ≤ low_end 48 (line_place x d j v s)
    → ((e : Ends) → IsWithinLimit 48 e → bound ≤ e.lo → scored ≤ (ends (systems x.case j) (per_system x.case x.line) (weight x.case x.line) e).lo)
    → IsLowScore scored (base_point ends x d j (s ∷ v))
score_under x valid ends room d at_depot j s v base within low high =
    score_at x valid ends room d at_depot j s v base (joined_at x valid j s v base.1 within low high)

-- the Lagrangian of a point's cost and of at most its score is at most the point's
pub lagrangian_under : (p q cost scored value : ℕ) (v : Point) → value ≡ q * scored + p * cost → cost ≡ v.cost → scored ≤ v.lo → value ≤ lagrangian p q v
lagrangian_under p q cost scored value v e g h =
    let m : q * scored ≤ q * v.lo = mul-le-mul_left q h in
    let n : p * cost ≡ p * v.cost = ap (λ z. p * z) g in
    omega (arith, e, m, n)

-- lower bounds at two prices
module _ (x : FamilyBox) (ends : ScoreEnds) (d : List ℕ) (j : ℕ) (low high : Price) where
  -- lower ones
  pub lower_under : (shops : List ℕ) (s : ℕ) (lows others : Lows) → AreNoHigher lows others → AreUnder ends x d j low high shops s others → AreUnder ends x d j low high shops s lows
  lower_under shops s lows others n h = record { at_low = omega (arith, n.at_low, h.at_low); at_high = omega (arith, n.at_high, h.at_high) }

  -- one stock more
  pub stock_more : (shops : List ℕ) (s : ℕ) (found here : Lows) → ((k : ℕ) → line_low x j ≤ k → k ≤ s → AreUnder ends x d j low high shops k found)
      → AreUnder ends x d j low high shops (s + 1) here → (k : ℕ) → line_low x j ≤ k → k ≤ s + 1 → AreUnder ends x d j low high shops k (lower_of found here)
  stock_more shops s found here h now k l t = elim (cases_lt s k) [
    | inl b ↦ (let e : s + 1 ≡ k = omega (arith, b, t) in
        let w : AreUnder ends x d j low high shops k here = subst (λ n. AreUnder ends x d j low high shops n here) e now in
        lower_under shops k (lower_of found here) here (record { at_low = omega arith; at_high = omega arith }) w)
    | inr b ↦ lower_under shops k (lower_of found here) found (record { at_low = omega arith; at_high = omega arith }) (h k l b)
  ]

  -- the first stock
  pub first_stock : (shops : List ℕ) (s : ℕ) (least here : Lows) → AreUnder ends x d j low high shops s here → (k : ℕ) → s ≤ k → k ≤ s → AreUnder ends x d j low high shops k (lower_of least here)
  first_stock shops s least here now k l t =
      let e : s ≡ k = omega (arith, l, t) in
      let w : AreUnder ends x d j low high shops k here = subst (λ n. AreUnder ends x d j low high shops n here) e now in
      lower_under shops k (lower_of least here) here (record { at_low = omega arith; at_high = omega arith }) w

  -- what the cost alone reaches at a stock is at most the Lagrangian at each stock from there on
  pub beyond : (valid : IsFamilyBox x) (shops : List ℕ) (lows : Lows) (s cost : ℕ) → j < length x.case.sites → AreShopsAt x j shops → line_low x j ≤ s
      → cost ≡ cost_above x.case (family x.case x.line) (held_at x j) (s ∷ shops) → IsReached lows low high cost
      → (k : ℕ) → s ≤ k → k ≤ line_high x j → AreUnder ends x d j low high shops k lows
  beyond valid shops lows s cost m within l e h k a b =
      let each = (part_at x.case.parts x.line).cost in
      let before = line_dearer x valid j s shops m within l (omega (arith, a, b)) in
      let after = line_dearer x valid j k shops m within (omega (arith, l, a)) b in
      let more : (s - line_low x j) * each ≤ (k - line_low x j) * each = mul-le-mul_right each (omega (arith, a)) in
      let dear : cost ≤ cost_above x.case (family x.case x.line) (held_at x j) (k ∷ shops) = omega (arith, e, before, after, more) in
      let one : low.p * cost ≤ low.p * cost_above x.case (family x.case x.line) (held_at x j) (k ∷ shops) = mul-le-mul_left low.p dear in
      let two : high.p * cost ≤ high.p * cost_above x.case (family x.case x.line) (held_at x j) (k ∷ shops) = mul-le-mul_left high.p dear in
      record { at_low = omega (arith, h.at_low, one); at_high = omega (arith, h.at_high, two) }

  -- one choice of the shop units' stocks more
  pub shops_more : (vs : List (List ℕ)) (n : ℕ) (before after : Lows) (shops : List ℕ) → n < length vs → shops ≡ get_or vs n [] → AreNoHigher after before
      → ((w : List ℕ) → Among w (take n vs) → (s : ℕ) → line_low x j ≤ s → s ≤ line_high x j → AreUnder ends x d j low high w s before)
      → ((s : ℕ) → line_low x j ≤ s → s ≤ line_high x j → AreUnder ends x d j low high shops s after)
      → (w : List ℕ) → Among w (take (n + 1) vs) → (s : ℕ) → line_low x j ≤ s → s ≤ line_high x j → AreUnder ends x d j low high w s after
  shops_more vs n before after shops h e lower so_far here w k s l t = elim (among_either w (take n vs) (get_or vs n [] ∷ []) (subst (λ ws. Among w ws) (take_next vs n h) k)) [
    | inl i ↦ lower_under w s after before lower (so_far w i s l t)
    | inr i ↦ elim i [
      | inl g ↦ subst (λ u. AreUnder ends x d j low high u s after) (e ∙ sym g) (here s l t)
      | inr none ↦ absurd none
    ]
  ]

-- what is at most the Lagrangian at each of the stocks is so of each of a base's points
pub base_under : (x : FamilyBox) (valid : IsFamilyBox x) (ends : ScoreEnds) (d : List ℕ) (j : ℕ) → IsBase x.case j → (p q m n : ℕ) → length (shop_vectors x j) ≤ n
    → ((w : List ℕ) → Among w (take n (shop_vectors x j)) → (s : ℕ) → line_low x j ≤ s → s ≤ line_high x j
    → m ≤ lagrangian p q (base_point ends x d j (s ∷ w)))
    → AreAtLeast p q m (base_points ends x d j)
base_under x valid ends d j base p q m n all h v k =
    let point = base_point ends x d j in
    let vs = vectors (line_low x j ∷ shop_low x j) (line_high x j ∷ shop_high x j) in
    let there : Among v (map point vs) = subst (λ ps. Among v ps)
    (sym (ap₂ (λ low high. map point (vectors low high)) (low_begins x valid j base.1) (high_begins x valid j base.1))) k in
    let one : Mapped point vs v = among_mapped point vs v there in
    let row : ℕ → List (List ℕ) = λ s. map (λ w. s ∷ w) (shop_vectors x j) in
    let two : Flattened row (between (line_low x j) (line_high x j)) one.from = among_flattened row (between (line_low x j) (line_high x j)) one.from one.there in
    let three : Mapped (λ w. two.from ∷ w) (shop_vectors x j) one.from = among_mapped (λ w. two.from ∷ w) (shop_vectors x j) one.from two.in_it in
    let range = range_has two.from (line_low x j) (suc (line_high x j) - line_low x j) two.there in
    let among : Among three.from (take n (shop_vectors x j)) = subst (λ ws. Among three.from ws) (sym (take_all n (shop_vectors x j) all)) three.there in
    let low = range.0 in let high = range.1 in
    let there_is : point (two.from ∷ three.from) ≡ v = sym (ap point three.is) ∙ sym one.is in
    subst (λ u. m ≤ lagrangian p q u) there_is (h three.from among two.from low (omega (arith, low, high)))

-- the depot's stocks alone
pub depot_under : (x : FamilyBox) (d : List ℕ) (p q n : ℕ) → n ≡ (depot_point x d).cost → AreAtLeast p q (p * n) (depot_point x d ∷ [])
depot_under x d p q n e v m = elim m [
  | inl i ↦ (let z : p * n ≡ p * (depot_point x d).cost = ap (λ k. p * k) e in
      subst (λ u. p * n ≤ lagrangian p q u) (sym i) (omega (arith, z)))
  | inr none ↦ absurd none
]

-- one base more
pub base_under_more : (x : FamilyBox) (ends : ScoreEnds) (d : List ℕ) (p q j a b : ℕ) → 0 < j
    → AreAtLeast p q a (points_over ends x d (range_with_len 1 (j - 1)))
    → AreAtLeast p q b (base_points ends x d j)
    → AreAtLeast p q (a + b) (points_over ends x d (range_with_len 1 (j + 1 - 1)))
base_under_more x ends d p q j a b some h k =
    let over : ℕ → List Point = λ n. points_over ends x d (range_with_len 1 n) in
    let base : ℕ → List Point = base_points ends x d in
    let next : suc (j - 1) ≡ j + 1 - 1 = omega (arith, some) in
    let here : j - 1 + 1 ≡ j = omega (arith, some) in
    let more : over (suc (j - 1)) ≡ sums (over (j - 1)) (base j) = over_more ends x d (j - 1) ∙ ap (λ i. sums (over (j - 1)) (base i)) here in
    subst (λ n. AreAtLeast p q (a + b) (over n)) next (subst (AreAtLeast p q (a + b)) (sym more) (at_least_sums p q a b (over (j - 1)) (base j) h k))
