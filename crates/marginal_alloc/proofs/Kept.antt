-- What a plan promises.
use Rattle.std.proofs.Common.{◌≡◌, ℕ, zero, suc, ◌+◌, ◌-◌, ◌*◌, ◌^◌, ◌<◌, ◌≤◌, List, [], ◌∷◌, Option, Some, None, slice_index, sym, ap, ◌∙◌, subst, arith}
use Rattle.std.proofs.Math.Nat.{mul-le-mul_left, le_of_mul-le-mul_left}
use Rattle.hull.specs.declared.point.Point.{Point}
use Rattle.hull.specs.Curves.{nowhere}
use Rattle.hull.proofs.Public.{among_at}
use Rattle.marginal_alloc.specs.declared.allocation.Critical.{Critical}
use Rattle.price_bounds.proofs.Public.{claimed, exact_floors, least_floors, gap_within, sum_contains, at_least, at_most, bound_at_most}
use Rattle.price_bounds.specs.Sums.{cost_of, lo_of, hi_of, width_of, Picks, AllLeast, bound_of}
use Rattle.step_walk.specs.Prefix.{curve_at, vertex_at, AreVertices, picked}
use Rattle.marginal_alloc.specs.Choice.{IsHullChoice, rounding_at}
use Rattle.marginal_alloc.proofs.Bounds.{HasChoice}
use Rattle.marginal_alloc.proofs.Bounds.{all_picked, choice_least, choice_no_fewer, choice_no_price, own_ends}
use Rattle.marginal_alloc.proofs.Filled.{fills_cost, fills_vertices}
use Rattle.marginal_alloc.proofs.AtCritical.{filled_hi}
use Rattle.marginal_alloc.proofs.Told.{told, bound_at}
use Rattle.marginal_alloc.specs.declared.plans.PlanNumbers.{PlanNumbers}
use Rattle.price_bounds.specs.Values.{sum_of}
use Rattle.marginal_alloc.specs.Plans.{IsPlan}
use Rattle.price_bounds.specs.Certificates.{IsAcceptable}
use Rattle.marginal_alloc.specs.Promises.{NoPriceBoundIsHigher, NoCertificateIsHigher, AreIntervals, PlanPromises}

-- q·N ≤ (q·l + p·c) - p·B, and q·hi + p·c ≤ q·X + p·B
higher_step : (p q N l h c B X : ℕ) → 0 < q → q * N ≤ q * l + p * c - p * B → l ≤ h → q * h + p * c ≤ q * X + p * B → N ≤ X
higher_step p q N l h c B X pos n ends within =
    let i : q * l ≤ q * h = mul-le-mul_left q ends in
    let m : q * N ≤ q * X = omega (arith, i, n, within) in
    le_of_mul-le-mul_left m pos

choice_ends : (families : List (List Point)) (ws : List Point) → AreIntervals families → Picks families ws → lo_of ws ≤ hi_of ws
choice_ends [] [] i w = omega arith
choice_ends [] (v ∷ vs) i w = absurd w
choice_ends (x ∷ xs) [] i w = absurd w
choice_ends (x ∷ xs) (v ∷ vs) i w =
    let h = i zero v w.0 in
    let k = choice_ends xs vs (λ f u a. i (suc f) u a) w.1 in
    omega (arith, h, k)

-- the gap of a filled plan: its upper end is at most that of the hull choice, and the width is within the rounding
gap_step : (p q r g n h W R : ℕ) → n + g ≡ h → q * (h - n) ≤ p * r + q * (W + 1) → W + 1 ≤ R → q * g ≤ p * r + q * R
gap_step p q r g n h W R e k w =
    let i : q * (W + 1) ≤ q * R = mul-le-mul_left q w in
    let j : q * g ≡ q * (h - n) = ap (λ z. q * z) (let l : g ≡ h - n = omega (arith, e) in l) in
    omega (arith, i, j, k)

module _ (families : List (List Point)) (budget : ℕ) (chosen : List Point) (floors : List ℕ) (numbers : PlanNumbers) (plan : IsPlan families budget chosen floors numbers) where
  -- the hull choice with the numbers' cost and price
  own : IsHullChoice plan.curves budget (told plan.hull.picks numbers.hull_cost numbers.price plan.hull.critical)
  own = subst (λ z. IsHullChoice plan.curves budget (told plan.hull.picks z numbers.price plan.hull.critical)) (sym plan.hull_cost)
      (subst (λ z. IsHullChoice plan.curves budget (told plan.hull.picks plan.hull.cost z plan.hull.critical)) (sym plan.price) plan.choice.choice)

  end_vertices : AreVertices plan.curves plan.end
  end_vertices = fills_vertices plan.fills own.prefix.vertices

  end_picks : Picks families (picked plan.curves plan.end)
  end_picks = all_picked families plan.curves plan.end plan.choice.areas.count end_vertices.count
      (λ g b. (plan.choice.areas.each g b).among (vertex_at plan.curves g (slice_index plan.end g)) (among_at (curve_at plan.curves g) (slice_index plan.end g) nowhere (end_vertices.below g b)))

  own_choice : Picks families (picked plan.curves plan.hull.picks)
  own_choice = all_picked families plan.curves plan.hull.picks plan.choice.areas.count own.prefix.vertices.count
      (λ g b. (plan.choice.areas.each g b).among (vertex_at plan.curves g (slice_index plan.hull.picks g)) (among_at (curve_at plan.curves g) (slice_index plan.hull.picks g) nowhere (own.prefix.vertices.below g b)))

  least : (0 < numbers.price.q) × AllLeast numbers.price.p numbers.price.q families (picked plan.curves plan.hull.picks)
  least = choice_least families plan.curves budget plan.hull.picks numbers.hull_cost numbers.price plan.choice.areas plan.choice.shapes plan.hull.critical own

  own_bound : numbers.bound ≡ bound_at plan.curves budget plan.hull.picks numbers.price
  own_bound = plan.bound ∙ ap (λ z. bound_of numbers.price.p numbers.price.q z budget) (least_floors numbers.price families (picked plan.curves plan.hull.picks) floors least.1 own_choice plan.floors_are)

  chosen_picks : Picks families chosen
  chosen_picks = subst (λ z. Picks families z) (sym plan.chosen_is) end_picks

  end_cost : cost_of (picked plan.curves plan.end) ≤ budget
  end_cost = fills_cost plan.fills (subst (λ z. z ≤ budget) own.cost_is own.fits)

  chosen_cost : cost_of chosen ≤ budget
  chosen_cost = subst (λ z. cost_of z ≤ budget) (sym plan.chosen_is) end_cost

  fewer : (points : List Point) → Picks families points → cost_of points ≤ budget → numbers.bound ≤ lo_of points
  fewer points w fits = subst (λ z. z ≤ lo_of points) (sym own_bound)
      (choice_no_fewer families plan.curves budget plan.hull.picks numbers.hull_cost numbers.price plan.choice.areas plan.choice.shapes plan.hull.critical own points w fits)

  limit : (a b : ℕ) → HasChoice families a b (numbers.bound + numbers.rounding) budget
  limit a b = subst (λ z. HasChoice families a b (z + numbers.rounding) budget) (sym own_bound)
      (subst (λ z. HasChoice families a b (bound_at plan.curves budget plan.hull.picks numbers.price + z) budget) (sym plan.rounding)
      (choice_no_price families plan.curves budget plan.hull.picks numbers.hull_cost numbers.price plan.choice.areas plan.choice.shapes a b plan.hull.critical own))

  higher : NoPriceBoundIsHigher families budget (numbers.bound + numbers.rounding)
  higher values price bound are at =
      let z : HasChoice families (2 ^ 48 * price.num) price.den (numbers.bound + numbers.rounding) budget = limit (2 ^ 48 * price.num) price.den in
      bound_at_most (numbers.bound + numbers.rounding) budget (lo_of z.points) (hi_of z.points) (cost_of z.points) price bound (sum_of (values z.points))
      (at z.points z.picks) (sum_contains z.points (values z.points) (are z.points z.picks)) z.within

  certificates : AreIntervals families → NoCertificateIsHigher families budget (numbers.bound + numbers.rounding)
  certificates intervals claims a =
      let z : HasChoice families claims.price.p claims.price.q (numbers.bound + numbers.rounding) budget = limit claims.price.p claims.price.q in
      higher_step claims.price.p claims.price.q claims.bound (lo_of z.points) (hi_of z.points) (cost_of z.points) budget (numbers.bound + numbers.rounding) a.money
      (claimed families budget claims a z.points z.picks) (choice_ends families z.points intervals z.picks) z.within

  rounding_covers : (critical : Option Critical) → width_of (picked plan.curves plan.hull.picks) + 1 ≤ rounding_at plan.curves plan.hull.picks critical
  rounding_covers None = omega arith
  rounding_covers (Some c) = omega arith

  not_negative : AreIntervals families → numbers.bound + numbers.gap ≡ numbers.upper
  not_negative intervals =
      let l : numbers.bound ≤ lo_of chosen = fewer chosen chosen_picks chosen_cost in
      let e = choice_ends families chosen intervals chosen_picks in
      let u = plan.upper in let g = plan.gap in
      omega (arith, l, e, u, g)

  small : AreIntervals families → numbers.price.q * numbers.gap ≤ numbers.price.p * (budget - numbers.hull_cost) + numbers.price.q * numbers.rounding
  small intervals =
      let h : hi_of (picked plan.curves plan.end) ≤ hi_of (picked plan.curves plan.hull.picks) = filled_hi plan.fills own.prefix.vertices.count in
      let e : numbers.upper ≡ hi_of (picked plan.curves plan.end) = plan.upper ∙ ap hi_of plan.chosen_is in
      let w : numbers.price.q * (hi_of (picked plan.curves plan.end) - bound_at plan.curves budget plan.hull.picks numbers.price) ≤ numbers.price.p * (budget - cost_of (picked plan.curves plan.hull.picks)) + numbers.price.q * (width_of (picked plan.curves plan.hull.picks) + 1)
      = gap_within numbers.price.p numbers.price.q budget (hi_of (picked plan.curves plan.end)) (picked plan.curves plan.hull.picks) least.0
      (own_ends families plan.curves budget plan.hull.picks numbers.hull_cost numbers.price plan.choice.areas plan.choice.shapes own.prefix) (subst (λ z. z ≤ budget) own.cost_is own.fits) h in
      gap_step numbers.price.p numbers.price.q (budget - numbers.hull_cost) numbers.gap numbers.bound numbers.upper (width_of (picked plan.curves plan.hull.picks)) numbers.rounding (not_negative intervals)
      (subst (λ z. numbers.price.q * (z - numbers.bound) ≤ numbers.price.p * (budget - numbers.hull_cost) + numbers.price.q * (width_of (picked plan.curves plan.hull.picks) + 1)) (sym e)
      (subst (λ z. numbers.price.q * (hi_of (picked plan.curves plan.end) - z) ≤ numbers.price.p * (budget - numbers.hull_cost) + numbers.price.q * (width_of (picked plan.curves plan.hull.picks) + 1)) (sym own_bound)
      (subst (λ z. numbers.price.q * (hi_of (picked plan.curves plan.end) - bound_at plan.curves budget plan.hull.picks numbers.price) ≤ numbers.price.p * (budget - z) + numbers.price.q * (width_of (picked plan.curves plan.hull.picks) + 1)) (sym own.cost_is) w)))
      (subst (λ z. width_of (picked plan.curves plan.hull.picks) + 1 ≤ z) (sym plan.rounding) (rounding_covers plan.hull.critical))

  -- a plan of points that are intervals keeps what plans promise
  pub plan_kept : AreIntervals families → PlanPromises families budget chosen numbers
  plan_kept intervals = record {
    within = chosen_picks;
    fits = subst (λ z. z ≤ budget) (sym plan.cost) chosen_cost;
    upper = λ values c. at_most numbers.upper (lo_of chosen) (hi_of chosen) (sum_of values) (let u = plan.upper in omega (arith, u)) (sum_contains chosen values c);
    fewer = λ points values w fits c. at_least numbers.bound (lo_of points) (hi_of points) (sum_of values) (fewer points w fits) (sum_contains points values c);
    higher = higher;
    certificates = certificates intervals;
    gap = not_negative intervals;
    small = small intervals;
  }

  -- the plan's points, price, floors, upper end and bound are acceptable as a certificate
  pub plan_acceptable : IsAcceptable families budget (record { chosen = chosen; price = numbers.price; floors = floors; upper = numbers.upper; bound = numbers.bound })
  plan_acceptable = record {
    money = least.0;
    within = chosen_picks;
    fits = chosen_cost;
    floors = exact_floors numbers.price families floors plan.floors_are;
    upper = (let u = plan.upper in omega (arith, u));
    bound = (let b = plan.bound in omega (arith, b));
  }
