use Rattle.std.proofs.Common.{◌≡◌, ◌≤◌, ◌<◌, ◌+◌, ◌-◌, ◌*◌, ◌/◌, List, IfSome, Some, length, map, option_map, replicate, sym, ap, ap₂, ◌∙◌, subst, arith, rules}
use Rattle.hull.specs.declared.price.Price.{Price}
use Rattle.hull.specs.Curves.{lagrangian}
use Rattle.fleet_model.specs.Rows.{line_units}
use Rattle.price_bounds.specs.Sums.{cost_of, total, width_of}
use Rattle.step_walk.specs.Prefix.{AreVertices, HaveShapes, picked}
use Rattle.marginal_alloc.specs.Choice.{IsHullChoice, firsts}
use Rattle.marginal_alloc.specs.Plans.{IsPlan}
use Rattle.hull.specs.declared.point.Point.{Point}
use Rattle.part_filling.specs.declared.window.Window.{Window}
use Rattle.part_filling.specs.Known.{AreKnown}
use Rattle.choice_parts.proofs.Public.{in_shape}
use Rattle.case_plan.specs.Parts.{IsPlace, numbers_of, slack}
use Rattle.case_plan.specs.Report.{HaveVectors}
use Rattle.case_plan.proofs.Planned.{family_some, place_at, planned_numbers}
use Rattle.case_plan.proofs.ByParts.{IsHullOf, critical_one, few_parts, hull_of, known_vectors, parts_known, vectors_count}
use Rattle.case_plan.proofs.Whole.{place_some}
use Rattle.case_plan.proofs.plan_parts.choose_stocks_by_parts.Goals as goal

-- ---- the hull choice of the parts

pub first_cost-requires : goal.first_cost-requires
first_cost-requires g c = record {
  few = subst (λ (l : List (List Point)). length l ≤ 2000) (sym c.as_slice.ensures.value)
      (few_parts c.args.case.now (g.F.Families.points c.args.families.now) c.args.parts.items c.invariant.ensures.valid c.requires.vectors c.requires.parts.count);
}

pub allocate_within-requires-clause-few : goal.allocate_within-requires-clause-few
allocate_within-requires-clause-few g c =
    subst (λ (l : List (List Point)). length l ≤ 2000) (sym c.as_slice-2.ensures.value)
    (few_parts c.args.case.now (g.F.Families.points c.args.families.now) c.args.parts.items c.invariant.ensures.valid c.requires.vectors c.requires.parts.count)

pub returns-clause-some : goal.returns-clause-some
returns-clause-some g c =
    let parts = c.args.parts.items in
    let chosen = c.in_ok-chosen.chosen in
    let first = c.in_ok-first_cost.ensures ∙ ap (λ l. cost_of (firsts l)) c.as_slice.ensures.value in
    let fits = c.if-branch-budget.false in
    critical_one parts c.args.budget chosen c.in-Some.step (subst HaveShapes c.as_slice-2.ensures.value c.in_ok-chosen.ensures.shapes)
    (subst (λ l. IsHullChoice l c.args.budget chosen) c.as_slice-2.ensures.value c.in_ok-chosen.ensures.choice) c.in-Some.is (omega (arith, first, fits))

pub hull_numbers-hull-requires-clause-few : goal.hull_numbers-hull-requires-clause-few
hull_numbers-hull-requires-clause-few g c =
    subst (λ (l : List (List Point)). length l ≤ 2000) (sym c.as_slice-3.ensures.value)
    (few_parts c.args.case.now (g.F.Families.points c.args.families.now) c.args.parts.items c.invariant.ensures.valid c.requires.vectors c.requires.parts.count)

pub hull_numbers-hull-requires-clause-vertices : goal.hull_numbers-hull-requires-clause-vertices
hull_numbers-hull-requires-clause-vertices g c =
    let v = c.in_ok-chosen.ensures.choice.prefix.vertices in
    let w = subst (λ l. AreVertices l c.in_ok-chosen.chosen.picks) (c.as_slice-2.ensures.value ∙ sym c.as_slice-3.ensures.value) v in
    subst (λ l. AreVertices c.as_slice-3.result.now l) (sym (c.as_slice-4.ensures.value ∙ c.into_vec-picks.ensures)) w

pub hull_numbers-hull-requires-clause-price : goal.hull_numbers-hull-requires-clause-price
hull_numbers-hull-requires-clause-price g c = (let h = c.in_ok-chosen.ensures.price in record { p = omega (arith, h.0); q = h.2; positive = h.1 })

pub hull_numbers-hull-requires-clause-critical : goal.hull_numbers-hull-requires-clause-critical
hull_numbers-hull-requires-clause-critical g c =
    subst (λ (l : List (List Point)). IsPlace l (Some c.in-Some.step)) (c.as_slice-2.ensures.value ∙ sym c.as_slice-3.ensures.value)
    (place_at c.as_slice-2.result.now c.args.budget c.in_ok-chosen.chosen (Some c.in-Some.step) c.in-Some.is c.in_ok-chosen.ensures.choice)

pub floors_at-requires-clause-vertices : goal.floors_at-requires-clause-vertices
floors_at-requires-clause-vertices g c =
    let v = c.in_ok-chosen.ensures.choice.prefix.vertices in
    let w = subst (λ l. AreVertices l c.in_ok-chosen.chosen.picks) (c.as_slice-2.ensures.value ∙ sym c.as_slice-5.ensures.value) v in
    subst (λ l. AreVertices c.as_slice-5.result.now l) (sym (c.as_slice-6.ensures.value ∙ c.into_vec-picks.ensures)) w

pub floors_at-requires-clause-price : goal.floors_at-requires-clause-price
floors_at-requires-clause-price g c = (let h = c.in_ok-chosen.ensures.price in record { p = omega (arith, h.0); q = h.2; positive = h.1 })

-- ---- the filling

pub fill_parts-requires-clause-families : goal.fill_parts-requires-clause-families
fill_parts-requires-clause-families g c = c.requires.families

pub fill_parts-requires-clause-start : goal.fill_parts-requires-clause-start
fill_parts-requires-clause-start g c = c.requires.window.low_small

pub fill_parts-requires-clause-few : goal.fill_parts-requires-clause-few
fill_parts-requires-clause-few g c =
    few_parts c.args.case.now (g.F.Families.points c.args.families.now) c.args.parts.items c.invariant.ensures.valid c.requires.vectors c.requires.parts.count

pub fill_parts-requires-clause-known : goal.fill_parts-requires-clause-known
fill_parts-requires-clause-known g c =
    let all : c.in_ok-windows.windows.items ≡ replicate c.len.result c.args.window = search rules in
    let n : c.len.result ≡ length c.args.parts.items = search rules in
    subst (λ (ws : List Window). AreKnown (g.F.Families.points c.args.families.now) c.args.parts.items ws c.args.beyond.items) (sym (all ∙ ap (λ n. replicate n c.args.window) n))
    (parts_known c.args.window (g.F.Families.points c.args.families.now) c.args.parts.items c.args.beyond.items c.requires.window c.requires.parts c.requires.beyond)

pub fill_parts-requires-clause-vertices : goal.fill_parts-requires-clause-vertices
fill_parts-requires-clause-vertices g c =
    let w = subst (λ l. AreVertices l c.in_ok-chosen.chosen.picks) c.as_slice-2.ensures.value c.in_ok-chosen.ensures.choice.prefix.vertices in
    subst (λ l. AreVertices c.args.parts.items l) (sym c.into_vec-picks.ensures) w

pub fill_parts-requires-clause-fits : goal.fill_parts-requires-clause-fits
fill_parts-requires-clause-fits g c =
    let h = subst (λ l. IsHullChoice l c.args.budget c.in_ok-chosen.chosen) c.as_slice-2.ensures.value c.in_ok-chosen.ensures.choice in
    let cost = h.cost_is in
    let fits = h.fits in
    let low : cost_of (picked c.args.parts.items c.in_ok-chosen.chosen.picks) ≤ c.args.budget = omega (arith, cost, fits) in
    subst (λ l. cost_of (picked c.args.parts.items l) ≤ c.args.budget) (sym c.into_vec-picks.ensures) low

-- ---- the stocks

pub filled-requires-clause-vectors : goal.filled-requires-clause-vectors
filled-requires-clause-vectors g c =
    let known = c.fill_parts.new.known in
    subst (HaveVectors c.args.case.now) (sym c.as_slice-7.ensures.value)
    (known_vectors c.args.case.now (g.F.Families.points c.args.families.now) known.curves.items known.windows.items known.beyond.items c.in_ok-fill_parts.ensures.known c.requires.vectors)

pub filled-requires-clause-vertices : goal.filled-requires-clause-vertices
filled-requires-clause-vertices g c =
    subst (AreVertices c.as_slice-7.result.now) (sym c.as_slice-8.ensures.value)
    (subst (λ l. AreVertices l c.fill_parts.new.known.picks.items) (sym c.as_slice-7.ensures.value) c.in_ok-fill_parts.ensures.vertices)

pub filled-requires-clause-critical : goal.filled-requires-clause-critical
filled-requires-clause-critical g c =
    let case = c.args.case.now in
    let parts = c.args.parts.items in
    let lines = vectors_count case (g.F.Families.points c.args.families.now) c.requires.vectors in
    let choice = subst (λ l. IsHullChoice l c.args.budget c.in_ok-chosen.chosen) c.as_slice-2.ensures.value c.in_ok-chosen.ensures.choice in
    place_some parts (length (line_units case)) c.hull_numbers-hull.result.critical (sym c.requires.parts.count ∙ sym lines)
    (subst (λ o. IfSome o (λ family. family < length parts)) (sym c.hull_numbers-hull.ensures.critical)
    (family_some parts (Some c.in-Some.step) (place_at parts c.args.budget c.in_ok-chosen.chosen (Some c.in-Some.step) c.in-Some.is choice)))

pub returns-clause-fits : goal.returns-clause-fits
returns-clause-fits g c = c.in_ok-stocks.ensures.fits

pub returns-clause-known : goal.returns-clause-known
returns-clause-known g c = c.in_ok-fill_parts.ensures.known

pub returns-clause-chosen : goal.returns-clause-chosen
returns-clause-chosen g c = λ curves areas.
    let families = g.F.Families.points c.args.families.now in
    let parts = c.args.parts.items in
    let chosen = c.in_ok-chosen.chosen in
    let step = c.in-Some.step in
    let budget = c.args.budget in
    let h : IsHullOf curves parts budget chosen = hull_of c.args.window.low c.args.window.high families parts curves c.requires.families c.requires.window.window c.requires.parts areas budget chosen
    (subst (λ l. IsHullChoice l budget chosen) c.as_slice-2.ensures.value c.in_ok-chosen.ensures.choice) step c.in-Some.is in
    let vec = c.into_vec-picks.ensures in
    let r = c.in_ok-fill_parts.ensures.fills curves h.hull.picks areas (record { vertices = h.choice.prefix.vertices; same = h.same ∙ ap (picked parts) (sym vec) }) in
    let n = c.hull_numbers-hull.ensures in
    let u = c.hull_numbers-hull.result in
    let f = c.in_ok-stocks.ensures in
    let x = c.in_ok-stocks.stocks in
    let vertices = picked c.as_slice-7.result.now c.as_slice-8.result.now in
    let three : picked c.as_slice-3.result.now c.as_slice-4.result.now ≡ picked curves h.hull.picks =
    ap (λ l. picked l c.as_slice-4.result.now) c.as_slice-3.ensures.value ∙ ap (picked parts) (c.as_slice-4.ensures.value ∙ vec) ∙ sym h.same in
    let five : picked c.as_slice-5.result.now c.as_slice-6.result.now ≡ picked curves h.hull.picks =
    ap (λ l. picked l c.as_slice-6.result.now) c.as_slice-5.ensures.value ∙ ap (picked parts) (c.as_slice-6.ensures.value ∙ vec) ∙ sym h.same in
    let end : picked curves r.0 ≡ picked c.as_slice-7.result.now c.as_slice-8.result.now =
    r.1.same ∙ ap (picked c.fill_parts.new.known.curves.items) (sym c.as_slice-8.ensures.value) ∙ ap (λ l. picked l c.as_slice-8.result.now) (sym c.as_slice-7.ensures.value) in
    record {
      vertices = vertices;
      is_plan = λ points own_areas.
          let base : IsPlan points budget (picked curves r.0) c.in_ok-floors.floors.items (numbers_of u.cost u.price u.bound u.rounding u.critical (picked curves r.0)) =
          planned_numbers points curves budget h.hull r.0 own_areas (in_shape families curves c.requires.families areas) h.choice r.2 c.in_ok-floors.floors.items u.price u.cost u.bound u.rounding u.critical
          (n.cost ∙ h.cost) (n.price ∙ h.price)
          (c.in_ok-floors.ensures ∙ ap (map (lagrangian chosen.price.p chosen.price.q)) five ∙ ap (λ (z : Price). map (lagrangian z.p z.q) (picked curves h.hull.picks)) h.price)
          (n.bound ∙ ap (λ vs. (total (lagrangian chosen.price.p chosen.price.q) vs - chosen.price.p * budget) / chosen.price.q) three
          ∙ ap (λ (z : Price). (total (lagrangian z.p z.q) (picked curves h.hull.picks) - z.p * budget) / z.q) h.price)
          (n.rounding ∙ ap₂ (λ x y. x + y + 1) (ap width_of three) (ap (λ l. slack l (Some step)) c.as_slice-3.ensures.value ∙ ap (slack parts) (sym c.in-Some.is) ∙ h.slack_same))
          (n.critical ∙ ap (option_map (λ c. c.family)) (sym c.in-Some.is) ∙ h.family) in
          subst (λ l. IsPlan points budget vertices l x.numbers) (sym f.floors)
          (subst (λ l. IsPlan points budget vertices c.in_ok-floors.floors.items l) (sym f.numbers)
          (subst (λ vs. IsPlan points budget vs c.in_ok-floors.floors.items (numbers_of u.cost u.price u.bound u.rounding u.critical vs)) end base));
      stocks_are = f.vectors;
      lower_is = f.lower;
    }
