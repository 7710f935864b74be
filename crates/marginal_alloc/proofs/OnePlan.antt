-- Points whose stocks tell them apart have one plan under a budget.
use Rattle.std.proofs.Common.{◌≡◌, ℕ, ◌-◌, ◌≤◌, List, [], ◌∷◌, option_map, sum, refl, sym, ap, ◌∙◌, subst, arith}
use Rattle.std.proofs.lemmas.List.{ext_get_or}
use Rattle.hull.specs.declared.point.Point.{Point}
use Rattle.hull.specs.declared.price.Price.{Price}
use Rattle.hull.proofs.Public.{one_curve}
use Rattle.marginal_alloc.specs.declared.plans.PlanNumbers.{PlanNumbers}
use Rattle.price_bounds.specs.Sums.{cost_of, hi_of, bound_of}
use Rattle.step_walk.specs.Prefix.{curve_at, picked}
use Rattle.marginal_alloc.specs.Choice.{IsHullChoice, rounding_of}
use Rattle.marginal_alloc.specs.Filling.{Fills}
use Rattle.price_bounds.specs.Certificates.{AreLeastFloors}
use Rattle.marginal_alloc.specs.Plans.{IsPlan}
use Rattle.marginal_alloc.specs.Promises.{StocksTellAll, IsSamePlan}
use Rattle.marginal_alloc.proofs.One.{choices_are_one}
use Rattle.marginal_alloc.proofs.Ends.{fills_same}

one_floor : (c d v w : ℕ) → c ≤ w → d ≤ v → v ≡ c → w ≡ d → c ≡ d
one_floor c d v w h k e f = omega (arith, h, k, e, f)

-- the least floors are one
one_floors : (price : Price) (families : List (List Point)) (cs ds : List ℕ) → AreLeastFloors price families cs → AreLeastFloors price families ds → cs ≡ ds
one_floors price [] [] [] a b = refl
one_floors price [] [] (d ∷ ds) a b = absurd b
one_floors price [] (c ∷ cs) ds a b = absurd a
one_floors price (x ∷ xs) [] ds a b = absurd a
one_floors price (x ∷ xs) (c ∷ cs) [] a b = absurd b
one_floors price (x ∷ xs) (c ∷ cs) (d ∷ ds) a b =
    let v = a.1 in
    let w = b.1 in
    let here : c ≡ d = one_floor c d _ _ (a.0 w.0 w.1) (b.0 v.0 v.1) v.2 w.2 in
    ap (λ z. z ∷ cs) here ∙ ap (λ z. d ∷ z) (one_floors price xs cs ds a.2 b.2)

same_numbers : (a b : PlanNumbers) → a.hull_cost ≡ b.hull_cost → a.price ≡ b.price → a.cost ≡ b.cost → a.upper ≡ b.upper → a.bound ≡ b.bound → a.rounding ≡ b.rounding → a.gap ≡ b.gap → a.critical ≡ b.critical → a ≡ b
same_numbers a b h p c u n r g k =
    ap (λ z. let f : PlanNumbers = record { hull_cost = z; price = a.price; cost = a.cost; upper = a.upper; bound = a.bound; rounding = a.rounding; gap = a.gap; critical = a.critical } in f) h
    ∙ ap (λ z. let f : PlanNumbers = record { hull_cost = b.hull_cost; price = z; cost = a.cost; upper = a.upper; bound = a.bound; rounding = a.rounding; gap = a.gap; critical = a.critical } in f) p
    ∙ ap (λ z. let f : PlanNumbers = record { hull_cost = b.hull_cost; price = b.price; cost = z; upper = a.upper; bound = a.bound; rounding = a.rounding; gap = a.gap; critical = a.critical } in f) c
    ∙ ap (λ z. let f : PlanNumbers = record { hull_cost = b.hull_cost; price = b.price; cost = b.cost; upper = z; bound = a.bound; rounding = a.rounding; gap = a.gap; critical = a.critical } in f) u
    ∙ ap (λ z. let f : PlanNumbers = record { hull_cost = b.hull_cost; price = b.price; cost = b.cost; upper = b.upper; bound = z; rounding = a.rounding; gap = a.gap; critical = a.critical } in f) n
    ∙ ap (λ z. let f : PlanNumbers = record { hull_cost = b.hull_cost; price = b.price; cost = b.cost; upper = b.upper; bound = b.bound; rounding = z; gap = a.gap; critical = a.critical } in f) r
    ∙ ap (λ z. let f : PlanNumbers = record { hull_cost = b.hull_cost; price = b.price; cost = b.cost; upper = b.upper; bound = b.bound; rounding = b.rounding; gap = z; critical = a.critical } in f) g
    ∙ ap (λ z. let f : PlanNumbers = record { hull_cost = b.hull_cost; price = b.price; cost = b.cost; upper = b.upper; bound = b.bound; rounding = b.rounding; gap = b.gap; critical = z } in f) k

module _ (families : List (List Point)) (budget : ℕ) (chosen other : List Point) (floors other_floors : List ℕ) (numbers other_numbers : PlanNumbers) (tell : StocksTellAll families)
    (p : IsPlan families budget chosen floors numbers) (q : IsPlan families budget other other_floors other_numbers) where
  curves : p.curves ≡ q.curves
  curves = ext_get_or [] p.curves q.curves (sym p.choice.areas.count ∙ q.choice.areas.count) (λ f b.
      one_curve (curve_at families f) (curve_at p.curves f) (curve_at q.curves f) (tell f (let n = p.choice.areas.count in omega (arith, n, b)))
      (p.choice.areas.each f b) (q.choice.areas.each f (let n = p.choice.areas.count in let m = q.choice.areas.count in omega (arith, n, m, b))))

  hulls : p.hull ≡ q.hull
  hulls = choices_are_one p.curves budget p.choice.shapes p.hull.picks q.hull.picks p.hull.cost q.hull.cost p.hull.price q.hull.price p.hull.critical q.hull.critical p.choice.choice
      (subst (λ z. IsHullChoice z budget q.hull) (sym curves) q.choice.choice)

  ends : p.end ≡ q.end
  ends = fills_same p.curves budget p.hull.picks p.end q.end p.fills
      (subst (λ z. Fills p.curves budget z.picks q.end) (sym hulls) (subst (λ z. Fills z budget q.hull.picks q.end) (sym curves) q.fills))

  chosen_same : chosen ≡ other
  chosen_same = p.chosen_is ∙ ap (λ z. picked z p.end) curves ∙ ap (λ z. picked q.curves z) ends ∙ sym q.chosen_is

  prices : numbers.price ≡ other_numbers.price
  prices = p.price ∙ ap (λ z. z.price) hulls ∙ sym q.price

  floors_same : floors ≡ other_floors
  floors_same = one_floors numbers.price families floors other_floors p.floors_are (subst (λ z. AreLeastFloors z families other_floors) (sym prices) q.floors_are)

  costs : numbers.cost ≡ other_numbers.cost
  costs = p.cost ∙ ap cost_of chosen_same ∙ sym q.cost

  uppers : numbers.upper ≡ other_numbers.upper
  uppers = p.upper ∙ ap hi_of chosen_same ∙ sym q.upper

  bounds : numbers.bound ≡ other_numbers.bound
  bounds = p.bound ∙ ap (λ z. bound_of z.p z.q (sum floors) budget) prices ∙ ap (λ z. bound_of other_numbers.price.p other_numbers.price.q (sum z) budget) floors_same ∙ sym q.bound

  -- two plans under one budget agree in all they say, where stocks tell points apart
  pub one_plan : IsSamePlan chosen other floors other_floors numbers other_numbers
  one_plan = record {
    chosen = chosen_same;
    floors = floors_same;
    numbers = same_numbers numbers other_numbers
        (p.hull_cost ∙ ap (λ z. z.cost) hulls ∙ sym q.hull_cost) prices costs uppers bounds
        (p.rounding ∙ ap (λ z. rounding_of z p.hull) curves ∙ ap (λ z. rounding_of q.curves z) hulls ∙ sym q.rounding)
        (p.gap ∙ ap (λ z. z - numbers.bound) uppers ∙ ap (λ z. other_numbers.upper - z) bounds ∙ sym q.gap)
        (p.critical ∙ ap (λ z. option_map (λ c. c.family) z.critical) hulls ∙ sym q.critical);
  }
