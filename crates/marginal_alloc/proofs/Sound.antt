-- What a plan's points promise of allocations.
use Rattle.std.proofs.Common.{ℕ, zero, suc, ◌≤◌, List, [], ◌∷◌, map, sym, ◌∙◌, subst, arith}
use Rattle.exact_model.specs.Fraction.{Fraction, whole, ◌+ℚ◌, ◌*ℚ◌, ◌≤ℚ◌}
use Rattle.hull.specs.declared.point.Point.{Point}
use Rattle.price_bounds.specs.Sums.{cost_of, Picks}
use Rattle.price_bounds.specs.Values.{sum_of, IsAtMost}
use Rattle.price_bounds.specs.Allocations.{Family, points_of, AreEnclosed, IsBoundAtPrice, total_at}
use Rattle.price_bounds.specs.Soundness.{stocks_of}
use Rattle.price_bounds.proofs.Public.{own, ends_of, none_fewer, values_at, total_is, choice_allocation, choice_cost, choice_values}
use Rattle.marginal_alloc.specs.declared.plans.PlanNumbers.{PlanNumbers}
use Rattle.marginal_alloc.specs.Plans.{IsPlan}
use Rattle.marginal_alloc.specs.Promises.{AreIntervals, PlanPromises}
use Rattle.marginal_alloc.specs.Soundness.{IsSoundPlan}
use Rattle.marginal_alloc.proofs.Kept.{plan_kept}

pub intervals : (families : List Family) → AreEnclosed families → AreIntervals (map points_of families)
intervals [] e f v a = absurd a
intervals (family ∷ families) e zero v a =
    let o = own family family.vectors v a in
    let l : family.lo v.stocks ≤ family.hi v.stocks = ends_of (family.lo v.stocks) (family.hi v.stocks) (family.backorders 1024 v.stocks) (e.0 v.stocks o.1 1024 (omega arith)) in
    subst (λ z. z.lo ≤ z.hi) (sym o.0) l
intervals (family ∷ families) e (suc f) v a = intervals families e.1 f v a

-- a plan over families whose intervals enclose their backorders keeps its promises of all allocations
pub plan_sound : (families : List Family) (budget : ℕ) (chosen : List Point) (floors : List ℕ) (numbers : PlanNumbers) → AreEnclosed families
    → IsPlan (map points_of families) budget chosen floors numbers → IsSoundPlan families budget (stocks_of chosen) numbers
plan_sound families budget chosen floors numbers e plan = sound (plan_kept (map points_of families) budget chosen floors numbers plan (intervals families e))
  where
    at_price : (n : ℕ) (price bound : Fraction) → IsBoundAtPrice families budget n price bound → (points : List Point) → Picks (map points_of families) points
        → bound +ℚ price *ℚ whole budget ≤ℚ sum_of (values_at n families (stocks_of points)) +ℚ price *ℚ whole (cost_of points)
    at_price n price bound h points p =
        subst (λ z. bound +ℚ price *ℚ whole budget ≤ℚ z +ℚ price *ℚ whole (cost_of points)) (sym (total_is n families (stocks_of points)))
        (subst (λ z. bound +ℚ price *ℚ whole budget ≤ℚ total_at n families (stocks_of points) +ℚ price *ℚ whole z) (sym (choice_cost families points p))
        (h (stocks_of points) (choice_allocation families points p)))

    sound : PlanPromises (map points_of families) budget chosen numbers → IsSoundPlan families budget (stocks_of chosen) numbers
    sound k = record {
      allocation = choice_allocation families chosen k.within;
      cost = plan.cost ∙ choice_cost families chosen k.within;
      fits = k.fits;
      upper = λ n l. subst (λ z. IsAtMost numbers.upper z) (total_is n families (stocks_of chosen)) (k.upper (values_at n families (stocks_of chosen)) (choice_values n families chosen l e k.within));
      fewer = none_fewer families budget numbers.bound e k.fewer;
      price = λ n price bound l h. k.higher (λ points. values_at n families (stocks_of points)) price bound (λ points p. choice_values n families points l e p) (at_price n price bound h);
      certificate = k.certificates;
      gap = k.gap;
      small_gap = k.small;
    }
