-- Each state of a sweep is a hull choice under its own cost, so its vertices are least at its price.
use Rattle.std.proofs.Common.{◌≡◌, ℕ, zero, suc, ◌+◌, ◌-◌, ◌*◌, ◌<◌, ◌≤◌, List, [], ◌∷◌, Option, Some, None, length, slice_index, sum, max, refl, sym, subst, arith}
use Rattle.std.specs.Int.{div_ceil}
use Rattle.std.proofs.Math.Nat.{mul-le-mul_left, le_of_mul-le-mul_left, le_refl}
use Rattle.list_laws.proofs.Public.{ceil_most, sum_cons}
use Rattle.hull.specs.declared.point.Point.{Point}
use Rattle.hull.specs.declared.price.Price.{Price}
use Rattle.hull.specs.Curves.{Steps}
use Rattle.marginal_alloc.specs.declared.allocation.Critical.{Critical}
use Rattle.price_bounds.specs.Sums.{cost_of, lo_of, Picks}
use Rattle.step_walk.specs.Prefix.{curve_at, vertex_at, picked, AreVertices, IsPrefix, AllTaken, HaveShapes}
use Rattle.marginal_alloc.specs.Choice.{IsHullChoice, AreCurves}
use Rattle.marginal_alloc.proofs.Public.{told, choice_least}
use Rattle.step_walk.proofs.Public.{own_step, rises_at}
use Rattle.price_bounds.proofs.Public.{lagrangian_of_all, least_together}
use Rattle.budget_sweep.specs.declared.report.SweepPoint.{SweepPoint}
use Rattle.budget_sweep.specs.Sweep.{all_steps, TellsPrice, IsState, state_at, last_state}
use Rattle.budget_sweep.specs.Target.{cost_floor, floor_at, least_cost}
use Rattle.budget_sweep.specs.Cases.{IsSweepFor}

-- ---- a price at which the picks are a hull choice under their own cost

-- at this price the picks are the hull choice under their own cost
pub record IsPriced (curves : List (List Point)) (picks : List ℕ) (price : Price) : Type 0 where
  pub critical : Option Critical
  pub choice : IsHullChoice curves (cost_of (picked curves picks))
      (told picks (cost_of (picked curves picks)) price critical)

-- the price where no step is left, 0/1
abbrev pub end_price : Price
end_price = record { p = 0; q = 1 }

-- where all steps are taken, the picks are the hull choice under their cost at the price 0/1
pub at_end : (curves : List (List Point)) (picks : List ℕ) → IsPrefix curves picks → AllTaken curves picks
    → IsPriced curves picks end_price
at_end curves picks pre t = record {
  critical = None;
  choice = record {
    prefix = pre;
    cost_is = refl;
    fits = le_refl (cost_of (picked curves picks));
    stops = (t, refl, refl);
  };
}

-- where a step is left, they are so at the price of the next one
pub at_step : (curves : List (List Point)) (picks : List ℕ) (price : Price) → HaveShapes curves → IsPrefix curves picks
    → TellsPrice curves picks (Some price) → IsPriced curves picks price
at_step curves picks price shapes pre t =
    let rise_positive = rises_at curves t.0 (slice_index picks t.0) (shapes t.0 t.1.step.family).chain t.1.step in
    record {
      critical = Some (record { family = t.0; vertex = slice_index picks t.0 + 1 });
      choice = record {
        prefix = pre;
        cost_is = refl;
        fits = le_refl (cost_of (picked curves picks));
        stops = (t.1, refl, t.2, t.3, omega (arith, rise_positive));
      };
    }

pub fall_positive : (curves : List (List Point)) (picks : List ℕ) (price : Price) → HaveShapes curves
    → TellsPrice curves picks (Some price) → 0 < price.p
fall_positive curves picks price shapes t =
    let step : Steps (vertex_at curves t.0 (slice_index picks t.0)) (vertex_at curves t.0 (slice_index picks t.0 + 1)) =
    own_step (curve_at curves t.0) (shapes t.0 t.1.step.family).chain (slice_index picks t.0) t.1.step.place in
    let l = step.lo in
    let e = t.2 in
    omega (arith, l, e)

-- ---- what is least at a price

-- no choice has a smaller Lagrangian of its sums
reached : (families curves : List (List Point)) (picks : List ℕ) (price : Price) → AreCurves families curves
    → HaveShapes curves → IsPriced curves picks price
    → (choice : List Point) → Picks families choice
    → (0 < price.q)
    × (price.q * lo_of (picked curves picks) + price.p * cost_of (picked curves picks)
    ≤ price.q * lo_of choice + price.p * cost_of choice)
reached families curves picks price areas shapes priced choice own =
    let l = choice_least families curves (cost_of (picked curves picks)) picks (cost_of (picked curves picks)) price
    areas shapes priced.critical priced.choice in
    let t = least_together price.p price.q families (picked curves picks) choice l.1 own in
    let a = lagrangian_of_all price.p price.q (picked curves picks) in
    let b = lagrangian_of_all price.p price.q choice in
    (l.0, omega (arith, t, a, b))

lower_step : (p q l c m d : ℕ) → 0 < q → q * l + p * c ≤ q * m + p * d → d ≤ c → l ≤ m
lower_step p q l c m d h k b =
    let x : p * d ≤ p * c = mul-le-mul_left p b in
    let y : q * l ≤ q * m = omega arith in
    le_of_mul-le-mul_left y h

-- where no state asks for more than a cost, the least cost is at most that
pub all_below : (limit top : ℕ) (ps : List SweepPoint)
    → ((k : ℕ) → k < length ps → floor_at limit (state_at ps k) ≤ top) → least_cost limit ps ≤ top
all_below limit top [] f = omega arith
all_below limit top (p ∷ ps) f =
    let a : floor_at limit p ≤ top = f zero (omega arith) in
    let b = all_below limit top ps (λ k l. f (suc k) (omega arith)) in
    most (floor_at limit p) (least_cost limit ps) top a b
  where
    most : (a b c : ℕ) → a ≤ c → b ≤ c → max a b ≤ c
    most a b c h k = grind arith

-- what has no smaller Lagrangian than a state and comes to the limit costs at least what the price asks for
pub cheaper_step : (p q l c m d x : ℕ) → q * l + p * c ≤ q * m + p * d → m ≤ x → q * l + p * c - q * x ≤ d * p
cheaper_step p q l c m d x k b =
    let y : q * m ≤ q * x = mul-le-mul_left q b in
    omega arith

pub priced_lower : (families curves : List (List Point)) (picks : List ℕ) (price : Price) → AreCurves families curves
    → HaveShapes curves → IsPriced curves picks price
    → (choice : List Point) → Picks families choice → cost_of choice ≤ cost_of (picked curves picks)
    → lo_of (picked curves picks) ≤ lo_of choice
priced_lower families curves picks price areas shapes priced choice own fits =
    let r = reached families curves picks price areas shapes priced choice own in
    lower_step price.p price.q (lo_of (picked curves picks)) (cost_of (picked curves picks)) (lo_of choice)
    (cost_of choice) r.0 r.1 fits

pub priced_cheaper : (families curves : List (List Point)) (picks : List ℕ) (price : Price) (limit : ℕ)
    → AreCurves families curves → HaveShapes curves → IsPriced curves picks price → 0 < price.p
    → (choice : List Point) → Picks families choice → lo_of choice ≤ limit
    → div_ceil
    (price.q * lo_of (picked curves picks) + price.p * cost_of (picked curves picks) - price.q * limit) price.p
    ≤ cost_of choice
priced_cheaper families curves picks price limit areas shapes priced positive choice own fits =
    let r = reached families curves picks price areas shapes priced choice own in
    ceil_most (price.q * lo_of (picked curves picks) + price.p * cost_of (picked curves picks) - price.q * limit)
    price.p (cost_of choice) positive
    (cheaper_step price.p price.q (lo_of (picked curves picks)) (cost_of (picked curves picks)) (lo_of choice)
    (cost_of choice) limit r.1 fits)

pub ended_lowest : (families curves : List (List Point)) (picks : List ℕ) → AreCurves families curves
    → HaveShapes curves → IsPrefix curves picks → AllTaken curves picks
    → (choice : List Point) → Picks families choice → lo_of (picked curves picks) ≤ lo_of choice
ended_lowest families curves picks areas shapes pre t choice own =
    let r = reached families curves picks end_price areas shapes (at_end curves picks pre t) choice own in
    let k = r.1 in
    omega (arith, k)

-- ---- the states

module _ (families curves : List (List Point)) (areas : AreCurves families curves) (shapes : HaveShapes curves) where
  picks_lower : (picks : List ℕ) (price : Option Price) → IsPrefix curves picks → TellsPrice curves picks price
      → (choice : List Point) → Picks families choice → cost_of choice ≤ cost_of (picked curves picks)
      → lo_of (picked curves picks) ≤ lo_of choice
  picks_lower picks None pre t choice own fits = ended_lowest families curves picks areas shapes pre t choice own
  picks_lower picks (Some price) pre t choice own fits = priced_lower families curves picks price areas shapes
      (at_step curves picks price shapes pre t) choice own fits

  pub state_lower : (k : ℕ) (point : SweepPoint) → IsState curves k point → (choice : List Point)
      → Picks families choice → cost_of choice ≤ point.cost → point.lo ≤ lo_of choice
  state_lower k point s choice own fits =
      let c = s.state.cost in
      let l = s.state.lo in
      omega (arith, l, picks_lower s.picks point.price s.taken.prefix s.state.price choice own (omega (arith, c, fits)))

  picks_cheaper : (picks : List ℕ) (price : Option Price) (limit : ℕ) → IsPrefix curves picks
      → TellsPrice curves picks price
      → (choice : List Point) → Picks families choice → lo_of choice ≤ limit
      → cost_floor limit (lo_of (picked curves picks)) (cost_of (picked curves picks)) price ≤ cost_of choice
  picks_cheaper picks None limit pre t choice own fits = omega arith
  picks_cheaper picks (Some price) limit pre t choice own fits =
      priced_cheaper families curves picks price limit areas shapes (at_step curves picks price shapes pre t)
      (fall_positive curves picks price shapes t) choice own fits

  pub state_cheaper : (k limit : ℕ) (point : SweepPoint) → IsState curves k point → (choice : List Point)
      → Picks families choice → lo_of choice ≤ limit → floor_at limit point ≤ cost_of choice
  state_cheaper k limit point s choice own fits =
      subst (λ l. cost_floor limit l point.cost point.price ≤ cost_of choice) (sym s.state.lo)
      (subst (λ c. cost_floor limit (lo_of (picked curves s.picks)) c point.price ≤ cost_of choice) (sym s.state.cost)
      (picks_cheaper s.picks point.price limit s.taken.prefix s.state.price choice own fits))

-- ---- the last state

-- picks that stand on their curves have taken at most all steps
pub room_left : (curves : List (List Point)) (picks : List ℕ) → length picks ≡ length curves
    → ((f : ℕ) → f < length curves → slice_index picks f < length (curve_at curves f)) → sum picks ≤ all_steps curves
room_left [] [] n below = omega arith
room_left [] (k ∷ picks) n below = absurd (let l : suc (length picks) ≡ 0 = n in omega arith)
room_left (c ∷ curves) [] n below = omega arith
room_left (c ∷ curves) (k ∷ picks) n below =
    let r = room_left curves picks (let l : suc (length picks) ≡ suc (length curves) = n in omega arith)
    (λ f b. below (suc f) (omega arith)) in
    let h : k < length c = below zero (omega arith) in
    omega (arith, r, h, sum_cons k picks)

one_left : (curves : List (List Point)) (picks : List ℕ) (g : ℕ) → length picks ≡ length curves
    → ((f : ℕ) → f < length curves → slice_index picks f < length (curve_at curves f))
    → g < length curves → slice_index picks g + 1 < length (curve_at curves g) → sum picks < all_steps curves
one_left [] picks g n below b s = absurd (let l : g < 0 = b in omega arith)
one_left (c ∷ curves) [] g n below b s = absurd (let l : 0 ≡ suc (length curves) = n in omega arith)
one_left (c ∷ curves) (k ∷ picks) zero n below b s =
    let r = room_left curves picks (let l : suc (length picks) ≡ suc (length curves) = n in omega arith)
    (λ f b. below (suc f) (omega arith)) in
    let h : k + 1 < length c = s in
    omega (arith, r, h, sum_cons k picks)
one_left (c ∷ curves) (k ∷ picks) (suc g) n below b s =
    let r = one_left curves picks g (let l : suc (length picks) ≡ suc (length curves) = n in omega arith)
    (λ f b. below (suc f) (omega arith)) (omega arith) s in
    let h : k < length c = below zero (omega arith) in
    omega (arith, r, h, sum_cons k picks)

pub none_left : (curves : List (List Point)) (picks : List ℕ) (price : Option Price) → AreVertices curves picks
    → sum picks ≡ all_steps curves → TellsPrice curves picks price → AllTaken curves picks
none_left curves picks None v e t = t
none_left curves picks (Some price) v e t =
    absurd (let l = one_left curves picks t.0 v.count v.below t.1.step.family t.1.step.place in omega (arith, l, e))

-- ---- sweeps

module _ (families curves : List (List Point)) (points : List SweepPoint) (h : IsSweepFor families curves points) where
  -- no choice that costs at most what a state costs has a lower end below the state's
  pub none_lower : (k : ℕ) → k < length points → (choice : List Point) → Picks families choice
      → cost_of choice ≤ (state_at points k).cost → (state_at points k).lo ≤ lo_of choice
  none_lower k l choice own fits = state_lower families curves h.areas h.shapes k (state_at points k) (h.sweep.each k l)
      choice own fits

  -- each choice whose lower ends come to at most a limit costs at least the least cost of the limit
  pub none_cheaper : (limit : ℕ) (choice : List Point) → Picks families choice → lo_of choice ≤ limit
      → least_cost limit points ≤ cost_of choice
  none_cheaper limit choice own fits =
      all_below limit (cost_of choice) points
      (λ k l. state_cheaper families curves h.areas h.shapes k limit (state_at points k) (h.sweep.each k l) choice
      own fits)

  -- no choice has a lower end below that of the last state
  pub none_reaches : (choice : List Point) → Picks families choice → (last_state points).lo ≤ lo_of choice
  none_reaches choice own =
      let n = h.sweep.count in
      let s : IsState curves (length points - 1) (last_state points) = h.sweep.each (length points - 1)
      (omega (arith, n)) in
      let c = s.taken.count in
      let t = none_left curves s.picks (last_state points).price s.taken.prefix.vertices (omega (arith, c, n))
      s.state.price in
      let l = s.state.lo in
      omega (arith, l, ended_lowest families curves s.picks h.areas h.shapes s.taken.prefix t choice own)
