-- The plan of curves from its parts.
use Rattle.std.proofs.Common.{◌≡◌, ℕ, ◌+◌, ◌-◌, ◌*◌, ◌/◌, ◌<◌, List, [], ◌∷◌, IfSome, Option, Some, None, length, map, option_map, slice_index, sum, refl, sym, ap, ◌∙◌, subst, arith}
use Rattle.hull.specs.declared.point.Point.{Point}
use Rattle.hull.specs.declared.price.Price.{Price}
use Rattle.hull.specs.Curves.{lagrangian, nowhere}
use Rattle.hull.proofs.Public.{among_at}
use Rattle.marginal_alloc.specs.declared.allocation.Critical.{Critical}
use Rattle.marginal_alloc.specs.declared.allocation.Chosen.{Chosen}
use Rattle.marginal_alloc.specs.declared.plans.PlanNumbers.{PlanNumbers}
use Rattle.price_bounds.specs.Sums.{total, cost_of, hi_of, width_of, Picks, AllLeast, bound_of}
use Rattle.step_walk.specs.Prefix.{curve_at, vertex_at, picked, HaveShapes}
use Rattle.marginal_alloc.specs.Choice.{StopsWith, IsHullChoice, AreCurves, rounding_at}
use Rattle.marginal_alloc.specs.Filling.{Fills}
use Rattle.price_bounds.specs.Certificates.{AreLeastFloors}
use Rattle.marginal_alloc.proofs.Public.{all_picked, choice_least}
use Rattle.price_bounds.proofs.Public.{least_floors}
use Rattle.marginal_alloc.specs.Plans.{IsPlan}
use Rattle.case_plan.specs.Parts.{numbers_of, slack, IsPlace}

exact : (price : Price) (families : List (List Point)) (vs : List Point) → AllLeast price.p price.q families vs → Picks families vs → AreLeastFloors price families (map (lagrangian price.p price.q) vs)
exact price [] [] a k = tt
exact price [] (v ∷ vs) a k = absurd a
exact price (x ∷ xs) [] a k = absurd a
exact price (x ∷ xs) (v ∷ vs) a k = (a.0, (v, k.0, refl), exact price xs vs a.1 k.1)

-- the widths at the picks and at the critical vertex, and one, are the rounding
pub rounded : (curves : List (List Point)) (picks : List ℕ) (critical : Option Critical) → width_of (picked curves picks) + slack curves critical + 1 ≡ rounding_at curves picks critical
rounded curves picks None = omega arith
rounded curves picks (Some c) = refl

-- the critical vertex of a hull choice is one of its curve
pub place_at : (curves : List (List Point)) (budget : ℕ) (hull : Chosen) (critical : Option Critical) → hull.critical ≡ critical → IsHullChoice curves budget hull → IsPlace curves critical
place_at curves budget hull None e h = tt
place_at curves budget hull (Some c) e h =
    let s = subst (StopsWith curves budget hull.picks hull.cost hull.price) e h.stops in
    let step = s.0.step in
    let place = step.place in
    let v = s.1 in
    (step.family, omega (arith, place, v))

module _ (families curves : List (List Point)) (budget : ℕ) (hull : Chosen) (end : List ℕ)
    (areas : AreCurves families curves) (shapes : HaveShapes curves) (choice : IsHullChoice curves budget hull) (fills : Fills curves budget hull.picks end) where
  own : Picks families (picked curves hull.picks)
  own = all_picked families curves hull.picks areas.count choice.prefix.vertices.count
      (λ g b. (areas.each g b).among (vertex_at curves g (slice_index hull.picks g)) (among_at (curve_at curves g) (slice_index hull.picks g) nowhere (choice.prefix.vertices.below g b)))

  least : AllLeast hull.price.p hull.price.q families (picked curves hull.picks)
  least = (choice_least families curves budget hull.picks hull.cost hull.price areas shapes hull.critical choice).1

  -- numbers computed from the hull choice and the picks that fill the budget are those of a plan
  pub planned : (floors : List ℕ) (numbers : PlanNumbers) (all width more : ℕ) → numbers.hull_cost ≡ hull.cost → numbers.price ≡ hull.price → floors ≡ map (lagrangian hull.price.p hull.price.q) (picked curves hull.picks)
      → numbers.cost ≡ cost_of (picked curves end) → numbers.upper ≡ hi_of (picked curves end) → all ≡ total (lagrangian hull.price.p hull.price.q) (picked curves hull.picks)
      → numbers.bound ≡ (all - hull.price.p * budget) / hull.price.q → width ≡ width_of (picked curves hull.picks) → more ≡ slack curves hull.critical → numbers.rounding ≡ width + more + 1
      → numbers.gap ≡ numbers.upper - numbers.bound → numbers.critical ≡ option_map (λ c. c.family) hull.critical → IsPlan families budget (picked curves end) floors numbers
  planned floors numbers all width more hc pr f a h w b d m r g t =
      let exacts : AreLeastFloors hull.price families floors = subst (λ z. AreLeastFloors hull.price families z) (sym f) (exact hull.price families (picked curves hull.picks) least own) in
      record {
        curves = curves;
        hull = hull;
        end = end;
        choice = record { areas = areas; shapes = shapes; choice = choice };
        fills = fills;
        chosen_is = refl;
        hull_cost = hc;
        price = pr;
        cost = a;
        upper = h;
        floors_are = subst (λ (z : Price). AreLeastFloors z families floors) (sym pr) exacts;
        bound = b ∙ ap (λ z. (z - hull.price.p * budget) / hull.price.q) (w ∙ sym (least_floors hull.price families (picked curves hull.picks) floors least own exacts))
            ∙ ap (λ (z : Price). bound_of z.p z.q (sum floors) budget) (sym pr);
        rounding = r ∙ ap (λ z. z + more + 1) d ∙ ap (λ z. width_of (picked curves hull.picks) + z + 1) m ∙ rounded curves hull.picks hull.critical;
        gap = g;
        critical = t;
      }

  -- so are the numbers of a hull choice and of the picks that fill it
  pub planned_numbers : (floors : List ℕ) (price : Price) (cost bound rounding : ℕ) (family : Option ℕ) → cost ≡ hull.cost → price ≡ hull.price → floors ≡ map (lagrangian hull.price.p hull.price.q) (picked curves hull.picks)
      → bound ≡ (total (lagrangian hull.price.p hull.price.q) (picked curves hull.picks) - hull.price.p * budget) / hull.price.q
      → rounding ≡ width_of (picked curves hull.picks) + slack curves hull.critical + 1 → family ≡ option_map (λ c. c.family) hull.critical
      → IsPlan families budget (picked curves end) floors (numbers_of cost price bound rounding family (picked curves end))
  planned_numbers floors price cost bound rounding family c p f b r t =
      planned floors (numbers_of cost price bound rounding family (picked curves end)) (total (lagrangian hull.price.p hull.price.q) (picked curves hull.picks)) (width_of (picked curves hull.picks)) (slack curves hull.critical)
      c p f refl refl refl b refl refl r refl t

-- the family of a critical step is one of the curves
pub family_some : (curves : List (List Point)) (o : Option Critical) → IsPlace curves o → IfSome (option_map (λ c. c.family) o) (λ family. family < length curves)
family_some curves None h = tt
family_some curves (Some c) h = h.0
