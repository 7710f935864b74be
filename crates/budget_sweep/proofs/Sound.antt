-- What a sweep says of all allocations of some families.
use Rattle.std.proofs.Common.{◌≡◌, ℕ, ◌*◌, ◌^◌, ◌<◌, ◌≤◌, List, length, map, slice_index, sym, ◌∙◌, subst, arith}
use Rattle.std.proofs.Math.Nat.{mul-le-mul_left, le_of_mul-le-mul_right, div-mul-le_self}
use Rattle.std.proofs.lemmas.Nat.{pow_pos}
use Rattle.std.proofs.lemmas.Grind.{div_ceil_times}
use Rattle.exact_model.specs.Fraction.{Fraction, whole, scaled, ◌/ℚ◌, ◌≤ℚ◌, Contains}
use Rattle.fixed_interval.specs.Text.{text_value}
use Rattle.hull.specs.declared.point.Point.{Point}
use Rattle.hull.specs.Curves.{nowhere}
use Rattle.hull.proofs.Public.{among_at}
use Rattle.price_bounds.specs.Sums.{lo_of, hi_of, Picks}
use Rattle.price_bounds.specs.Allocations.{Family, points_of, AreEnclosed, IsFamilyAllocation, cost_at, total_at}
use Rattle.price_bounds.specs.Soundness.{stocks_of, NoneHasFewerThan}
use Rattle.price_bounds.proofs.Public.{sum_contains, at_least, points_at, values_at, total_is, allocation_picks, allocation_cost, allocation_values, choice_allocation, choice_cost, choice_values}
use Rattle.step_walk.specs.Prefix.{curve_at, picked, AreVertices}
use Rattle.marginal_alloc.specs.Choice.{AreCurves}
use Rattle.marginal_alloc.proofs.Public.{all_picked}
use Rattle.budget_sweep.specs.declared.report.SweepPoint.{SweepPoint}
use Rattle.budget_sweep.specs.Sweep.{IsState, state_at, last_state}
use Rattle.budget_sweep.specs.Target.{units_below, units_above, least_cost}
use Rattle.budget_sweep.specs.Cases.{IsSweepFor}
use Rattle.budget_sweep.proofs.StatesOf.{none_lower, none_cheaper, none_reaches}

-- ---- what costs as little as a point

-- the points of an allocation contain its total
contained : (families : List Family) (n : ℕ) (allocation : List (List ℕ)) → AreEnclosed families → 1024 ≤ n
    → IsFamilyAllocation families allocation
    → Contains 48 (lo_of (points_at families allocation)) (hi_of (points_at families allocation))
    (total_at n families allocation)
contained families n allocation e l own =
    subst (λ z. Contains 48 (lo_of (points_at families allocation)) (hi_of (points_at families allocation)) z)
    (total_is n families allocation)
    (sum_contains (points_at families allocation) (values_at n families allocation)
    (allocation_values n families allocation l e own))

-- no allocation that costs at most what a state costs has fewer backorders than its lower end
pub none_fewer_at : (families : List Family) (curves : List (List Point)) (points : List SweepPoint) (k : ℕ)
    → AreEnclosed families
    → IsSweepFor (map points_of families) curves points → k < length points
    → NoneHasFewerThan (state_at points k).lo families (state_at points k).cost
none_fewer_at families curves points k e h l n allocation deep own fits =
    let cost = allocation_cost families allocation in
    at_least (state_at points k).lo (lo_of (points_at families allocation)) (hi_of (points_at families allocation))
    (total_at n families allocation)
    (none_lower (map points_of families) curves points h k l (points_at families allocation)
    (allocation_picks families allocation own) (omega (arith, cost, fits)))
    (contained families n allocation e deep own)

-- ---- what stands behind a point

-- an allocation that costs what the point costs, with a total between its ends
pub record Behind (families : List Family) (point : SweepPoint) : Type 0 where
  pub stocks : List (List ℕ)
  pub allocation : IsFamilyAllocation families stocks
  pub cost : point.cost ≡ cost_at families stocks
  pub within : (n : ℕ) → 1024 ≤ n → Contains 48 point.lo point.hi (total_at n families stocks)

-- the vertices at picks are a choice
vertices_picked : (families curves : List (List Point)) (picks : List ℕ) → AreCurves families curves
    → AreVertices curves picks → Picks families (picked curves picks)
vertices_picked families curves picks areas v =
    all_picked families curves picks areas.count v.count
    (λ g b. (areas.each g b).among _ (among_at (curve_at curves g) (slice_index picks g) nowhere (v.below g b)))

same_ends : (lo hi l h : ℕ) (q : Fraction) → lo ≡ l → hi ≡ h → Contains 48 l h q → Contains 48 lo hi q
same_ends lo hi l h q a b c = subst (λ z. Contains 48 z hi q) (sym a) (subst (λ z. Contains 48 l z q) (sym b) c)

-- behind each state stands an allocation of its cost, with a total between its ends
pub state_behind : (families : List Family) (curves : List (List Point)) (k : ℕ) (point : SweepPoint)
    → AreEnclosed families → AreCurves (map points_of families) curves → IsState curves k point → Behind families point
state_behind families curves k point e areas s = behind
    (vertices_picked (map points_of families) curves s.picks areas s.taken.prefix.vertices)
  where
    behind : Picks (map points_of families) (picked curves s.picks) → Behind families point
    behind own = record {
      stocks = stocks_of (picked curves s.picks);
      allocation = choice_allocation families (picked curves s.picks) own;
      cost = s.state.cost ∙ choice_cost families (picked curves s.picks) own;
      within = λ n deep. same_ends point.lo point.hi (lo_of (picked curves s.picks)) (hi_of (picked curves s.picks))
          (total_at n families (stocks_of (picked curves s.picks))) s.state.lo s.state.hi
          (subst (λ z. Contains 48 (lo_of (picked curves s.picks)) (hi_of (picked curves s.picks)) z)
          (total_is n families (stocks_of (picked curves s.picks)))
          (sum_contains (picked curves s.picks) (values_at n families (stocks_of (picked curves s.picks)))
          (choice_values n families (picked curves s.picks) deep e own)));
    }

-- ---- targets

-- a value that is at most the target, in units of its last place, and back
in_places : (target : ℕ) (q : Fraction) → q ≤ℚ text_value 4 target → q.num * 10000 ≤ target * q.den
unfolding whole ◌/ℚ◌ scaled
in_places target q h = (let c = h.cross in omega (arith, c))

from_places : (target : ℕ) (q : Fraction) → q.num * 10000 ≤ target * q.den → q ≤ℚ text_value 4 target
unfolding whole ◌/ℚ◌ scaled
from_places target q h = record { cross = omega (arith, h) }

limit_step : (E l n d t : ℕ) → 0 < d → l * d ≤ n * E → n * 10000 ≤ t * d → l * 10000 ≤ t * E
limit_step E l n d t p h k =
    let x : 10000 * (l * d) ≤ 10000 * (n * E) = mul-le-mul_left 10000 h in
    let y : E * (n * 10000) ≤ E * (t * d) = mul-le-mul_left E k in
    le_of_mul-le-mul_right {m = l * 10000} {n = t * E} {k = d} (omega arith) p

-- what comes to the target has a lower end of at most its units
limited : (target lo hi : ℕ) (q : Fraction) → Contains 48 lo hi q → q ≤ℚ text_value 4 target → lo ≤ units_above target
limited target lo hi q c w =
    let x = limit_step (2 ^ 48) lo q.num q.den target q.positive c.low (in_places target q w) in
    let t = div_ceil_times (target * 2 ^ 48) 10000 (omega arith) in
    omega (arith, x, t.0)

within_step : (E h n d t : ℕ) → 0 < E → n * E ≤ h * d → h * 10000 ≤ t * E → n * 10000 ≤ t * d
within_step E h n d t p k l =
    let x : 10000 * (n * E) ≤ 10000 * (h * d) = mul-le-mul_left 10000 k in
    let y : d * (h * 10000) ≤ d * (t * E) = mul-le-mul_left d l in
    le_of_mul-le-mul_right {m = n * 10000} {n = t * d} {k = E} (omega arith) p

-- what has an upper end of at most its units comes to the target
pub comes_to : (target lo hi : ℕ) (q : Fraction) → Contains 48 lo hi q → hi ≤ units_below target
    → q ≤ℚ text_value 4 target
comes_to target lo hi q c h =
    let x = div-mul-le_self (target * 2 ^ 48) 10000 in
    from_places target q (within_step (2 ^ 48) hi q.num q.den target (pow_pos 48) c.high (omega (arith, x, h)))

module _ (families : List Family) (curves : List (List Point)) (points : List SweepPoint) (target : ℕ)
    (e : AreEnclosed families) (h : IsSweepFor (map points_of families) curves points) where
  -- the lower ends of an allocation that comes to the target
  low : (n : ℕ) (allocation : List (List ℕ)) → 1024 ≤ n → IsFamilyAllocation families allocation
      → total_at n families allocation ≤ℚ text_value 4 target
      → lo_of (points_at families allocation) ≤ units_above target
  low n allocation deep own comes =
      limited target (lo_of (points_at families allocation)) (hi_of (points_at families allocation))
      (total_at n families allocation) (contained families n allocation e deep own) comes

  -- where the last state's lower end is above the target, no allocation comes to the target
  pub none_come : units_above target < (last_state points).lo → (n : ℕ) (allocation : List (List ℕ)) → 1024 ≤ n
      → IsFamilyAllocation families allocation → total_at n families allocation ≤ℚ text_value 4 target → ⊥
  none_come over n allocation deep own comes =
      let most = low n allocation deep own comes in
      let least = none_reaches (map points_of families) curves points h (points_at families allocation)
      (allocation_picks families allocation own) in
      omega (arith, least, most, over)

  -- each allocation that comes to the target costs at least the least cost that the sweep tells of it
  pub all_cost : (n : ℕ) (allocation : List (List ℕ)) → 1024 ≤ n → IsFamilyAllocation families allocation
      → total_at n families allocation ≤ℚ text_value 4 target
      → least_cost (units_above target) points ≤ cost_at families allocation
  all_cost n allocation deep own comes =
      let cost = allocation_cost families allocation in
      let least = none_cheaper (map points_of families) curves points h (units_above target)
      (points_at families allocation) (allocation_picks families allocation own)
      (low n allocation deep own comes) in
      omega (arith, cost, least)
