-- The numbers of a plan have room.
use Rattle.std.proofs.Common.{◌≡◌, ℕ, ◌+◌, ◌*◌, ◌^◌, ◌<◌, ◌≤◌, inl, inr, List, [], ◌∷◌, Option, Some, None, length, map, get_or, slice_index, refl, sym, ◌∙◌, subst, arith, mul-le-mul_right}
use Rattle.std.specs.List.{AllByRecursion}
use Rattle.std.proofs.lemmas.List.Elements.{All-from_recursion, All-from_get_or}
use Rattle.std.proofs.lemmas.List.{length-map}
use Rattle.hull.specs.declared.point.Point.{Point}
use Rattle.hull.specs.declared.price.Price.{Price}
use Rattle.hull.specs.Curves.{Among, InRange, Steps, nowhere}
use Rattle.hull.specs.Scores.{EnclosesValue, LeavesRoom}
use Rattle.hull.proofs.Public.{among_at}
use Rattle.spares_input.specs.Cases.{CaseRows}
use Rattle.fleet_model.specs.Rows.{line_units}
use Rattle.fleet_model.proofs.Public.{allocation_reaches}
use Rattle.family_items.specs.Inputs.{IsLine}
use Rattle.family_points.specs.Points.{ScoreEnds}
use Rattle.marginal_alloc.specs.declared.allocation.Critical.{Critical}
use Rattle.marginal_alloc.specs.declared.allocation.Chosen.{Chosen}
use Rattle.price_bounds.specs.Sums.{hi_of, width_of, Picks}
use Rattle.step_walk.specs.Prefix.{curve_at, vertex_at, picked, HasStep, fall, rise, HaveShapes}
use Rattle.marginal_alloc.specs.Choice.{StopsWith, IsHullChoice}
use Rattle.price_bounds.specs.Certificates.{AreLeastFloors}
use Rattle.step_walk.proofs.Public.{own_step}
use Rattle.marginal_alloc.proofs.Public.{all_picked, plan_acceptable}
use Rattle.fleet_model.specs.Aims.{Value}
pub use Rattle.fleet_model.proofs.Public.{few_lines}
use Rattle.fleet_plan.specs.Families.{family_points, case_points, points_at}
use Rattle.fleet_plan.specs.Plans.{CasePlan, IsCasePlan}
use Rattle.fleet_plan.specs.Laws.{IsAcceptedCase}
use Rattle.fleet_plan.proofs.Public.{lines_are, point_range, plan_true}
use Rattle.case_plan.specs.Parts.{slack, IsPlace, IsSmallPrice}
use Rattle.case_plan.specs.Laws.{FitsItsPlace}
use Rattle.case_plan.proofs.Sums.{lagrangian_small}
use Rattle.case_plan.proofs.Planned.{place_at, rounded}

-- ---- the price

range_at : (curves : List (List Point)) → HaveShapes curves → (f k : ℕ) → f < length curves → k < length (curve_at curves f) → InRange (vertex_at curves f k)
range_at curves shapes f k b l = (shapes f b).ranges (vertex_at curves f k) (among_at (curve_at curves f) k nowhere l)

step_small : (curves : List (List Point)) → HaveShapes curves → (f k p q : ℕ) → HasStep curves f k → p ≡ fall curves f k → q ≡ rise curves f k → (p ≤ 2 ^ 74) × (q ≤ 1000000000000) × (0 < q)
step_small curves shapes f k p q s a b =
    let place = s.place in
    let here = range_at curves shapes f k s.family (omega (arith, place)) in
    let there = range_at curves shapes f (k + 1) s.family place in
    let step : Steps (vertex_at curves f k) (vertex_at curves f (k + 1)) = own_step (curve_at curves f) (shapes f s.family).chain k place in
    let h = here.hi in let e = here.ends in let c = there.cost in let r = step.cost in
    (omega (arith, a, h, e), omega (arith, b, c), omega (arith, b, r))

small_at : (curves : List (List Point)) (budget : ℕ) (hull : Chosen) (critical : Option Critical) → hull.critical ≡ critical → HaveShapes curves → IsHullChoice curves budget hull → IsSmallPrice hull.price
small_at curves budget hull None e shapes h =
    let s = subst (StopsWith curves budget hull.picks hull.cost hull.price) e h.stops in
    let a = s.1 in let b = s.2 in
    record { p = omega (arith, a); q = omega (arith, b); positive = omega (arith, b) }
small_at curves budget hull (Some c) e shapes h =
    let s = subst (StopsWith curves budget hull.picks hull.cost hull.price) e h.stops in
    let r = step_small curves shapes c.family (slice_index hull.picks c.family) hull.price.p hull.price.q s.0.step s.2 s.3 in
    record { p = r.0; q = r.1; positive = r.2 }

slack_small : (curves : List (List Point)) (critical : Option Critical) → HaveShapes curves → IsPlace curves critical → slack curves critical ≤ 2 ^ 74
slack_small curves None shapes h = omega arith
slack_small curves (Some c) shapes h = (let r = (range_at curves shapes c.family c.vertex h.0 h.1).hi in omega (arith, r))

-- ---- sums over families

abbrev AreInRange : List (List Point) → Type 0
AreInRange families = AllByRecursion (λ points. (v : Point) → Among v points → InRange v) families

ranges_of : (ends : ScoreEnds) (c : CaseRows) (held ls : List ℕ) → IsAcceptedCase c → LeavesRoom ends → ((l : ℕ) → Among l ls → IsLine c l) → AreInRange (map (family_points ends c held) ls)
ranges_of ends c held [] accepted room lines = tt
ranges_of ends c held (l ∷ ls) accepted room lines =
    ((λ v a. point_range c accepted l (lines l (inl refl)) ends held v room a), ranges_of ends c held ls accepted room (λ m b. lines m (inr b)))

hi_most : (families : List (List Point)) (vs : List Point) → AreInRange families → Picks families vs → hi_of vs ≤ length families * 2 ^ 74
hi_most [] [] r p = omega arith
hi_most [] (v ∷ vs) r p = absurd p
hi_most (x ∷ xs) [] r p = absurd p
hi_most (x ∷ xs) (v ∷ vs) r p = (let a = (r.0 v p.0).hi in let b = hi_most xs vs r.1 p.1 in omega (arith, a, b))

width_most : (vs : List Point) → width_of vs ≤ hi_of vs
width_most [] = omega arith
width_most (v ∷ vs) = (let a = width_most vs in omega (arith, a))

floor_count : (price : Price) (families : List (List Point)) (floors : List ℕ) → AreLeastFloors price families floors → length floors ≡ length families
floor_count price [] [] h = refl
floor_count price [] (d ∷ ds) h = absurd h
floor_count price (x ∷ xs) [] h = absurd h
floor_count price (x ∷ xs) (d ∷ ds) h = (let e = floor_count price xs ds h.2 in omega (arith, e))

floors_small : (price : Price) (families : List (List Point)) (floors : List ℕ) → IsSmallPrice price → AreInRange families → AreLeastFloors price families floors → AllByRecursion (λ floor. floor ≤ 2 ^ 115) floors
floors_small price [] [] s r h = tt
floors_small price [] (d ∷ ds) s r h = absurd h
floors_small price (x ∷ xs) [] s r h = absurd h
floors_small price (x ∷ xs) (d ∷ ds) s r h =
    let w = h.1 in
    let b = (lagrangian_small price.p price.q w.0 s.p s.q (r.0 w.0 w.1)).2 in
    (omega (arith, b, w.2), floors_small price xs ds s r.1 h.2)

few : (n m : ℕ) → n ≡ m → m ≤ 2000 → n * 2 ^ 74 ≤ 2000 * 2 ^ 74
few n m e h = (let k : n ≤ 2000 = omega (arith, e, h) in mul-le-mul_right (2 ^ 74) k)

length_points : (ends : ScoreEnds) (c : CaseRows) (held ls : List ℕ) → length (map (family_points ends c held) ls) ≡ length ls
length_points ends c held ls = length-map ls (family_points ends c held)

-- the numbers of a case's plan have room in a certificate
pub plan_fits : (ends : ScoreEnds) (value : Value) (c : CaseRows) (held : List ℕ) (budget : ℕ) (p : CasePlan) → IsAcceptedCase c → EnclosesValue ends value → LeavesRoom ends → IsCasePlan ends c held budget p → FitsItsPlace c p
plan_fits ends value c held budget p accepted encloses room h =
    let plan = h.plan in
    let areas = plan.choice.areas in
    let k = plan_true ends value c held accepted encloses budget p h in
    let ranges = ranges_of ends c held (line_units c) accepted room (lines_are c accepted.valid) in
    let price : IsSmallPrice p.numbers.price = subst IsSmallPrice (sym plan.price) (small_at plan.curves budget plan.hull plan.hull.critical refl plan.choice.shapes plan.choice.choice) in
    let count : length (case_points ends c held) ≡ length (line_units c) = length_points ends c held (line_units c) in
    let top = few (length (case_points ends c held)) (length (line_units c)) count (few_lines c accepted.valid) in
    let hi = hi_most (case_points ends c held) (points_at ends c held p.stocks) ranges (plan_acceptable (case_points ends c held) budget (points_at ends c held p.stocks) p.floors p.numbers plan).within in
    let own : Picks (case_points ends c held) (picked plan.curves plan.hull.picks) =
    all_picked (case_points ends c held) plan.curves plan.hull.picks areas.count plan.choice.choice.prefix.vertices.count
    (λ g b. (areas.each g b).among (vertex_at plan.curves g (slice_index plan.hull.picks g)) (among_at (curve_at plan.curves g) (slice_index plan.hull.picks g) nowhere (plan.choice.choice.prefix.vertices.below g b))) in
    let wide = hi_most (case_points ends c held) (picked plan.curves plan.hull.picks) ranges own in
    let width = width_most (picked plan.curves plan.hull.picks) in
    let loose = slack_small plan.curves plan.hull.critical plan.choice.shapes (place_at plan.curves budget plan.hull plan.hull.critical refl plan.choice.choice) in
    let sum = rounded plan.curves plan.hull.picks plan.hull.critical in
    let upper : p.numbers.upper ≤ 2000 * 2 ^ 74 = (let u = plan.upper in omega (arith, u, hi, top)) in
    let g = k.gap in
    record {
      price = price.p;
      money = price.positive;
      most_money = price.q;
      floor_count = floor_count p.numbers.price (case_points ends c held) p.floors plan.floors_are ∙ count;
      floors_most = All-from_recursion (λ floor. floor ≤ 2 ^ 115) p.floors (floors_small p.numbers.price (case_points ends c held) p.floors price ranges plan.floors_are);
      stocks_most = All-from_get_or (λ stock. stock ≤ 63) p.stocks 0 (λ i b. subst (λ j. get_or p.stocks j 0 ≤ 63) (first_row i (length c.sites)) (allocation_reaches c p.stocks 62 accepted.valid k.allocation.allocation (omega arith) 0 i));
      upper = omega (arith, upper);
      bound = omega (arith, upper, g);
      gap = omega (arith, upper, g);
      rounding = (let r = plan.rounding in omega (arith, r, sum, width, wide, top, loose));
    }
  where
    first_row : (i n : ℕ) → 0 * n + i ≡ i
    first_row i n = omega arith
