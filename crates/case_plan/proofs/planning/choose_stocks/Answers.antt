use Rattle.std.proofs.Common.{◌≤◌, ◌+◌, ◌-◌, ◌*◌, ◌/◌, ◌<◌, IfSome, length, map, refl, sym, ap, ◌∙◌, subst, arith}
use Rattle.fleet_model.specs.Rows.{line_units}
use Rattle.hull.specs.Curves.{lagrangian}
use Rattle.price_bounds.specs.Sums.{cost_of, total, width_of}
use Rattle.step_walk.specs.Prefix.{AreVertices, picked}
use Rattle.marginal_alloc.specs.Filling.{Fills}
use Rattle.marginal_alloc.specs.Plans.{IsPlan}
use Rattle.case_plan.specs.Parts.{slack}
use Rattle.case_plan.proofs.Planned.{family_some, place_at, planned_numbers}
use Rattle.case_plan.proofs.Ranges.{few_lines}
use Rattle.case_plan.proofs.Whole.{place_some}
use Rattle.case_plan.proofs.planning.choose_stocks.Goals as goal

pub allocate_near-requires-clause-few : goal.allocate_near-requires-clause-few
allocate_near-requires-clause-few c = (let n = c.requires.curves.count in let m = few_lines c.args.case.now c.invariant.ensures.valid in omega (arith, n, m))

pub hull_numbers-hull-requires-clause-few : goal.hull_numbers-hull-requires-clause-few
hull_numbers-hull-requires-clause-few c = (let n = c.requires.curves.count in let m = few_lines c.args.case.now c.invariant.ensures.valid in omega (arith, n, m))

pub fill-requires-clause-few : goal.fill-requires-clause-few
fill-requires-clause-few c = (let n = c.requires.curves.count in let m = few_lines c.args.case.now c.invariant.ensures.valid in omega (arith, n, m))

pub hull_numbers-hull-requires-clause-critical : goal.hull_numbers-hull-requires-clause-critical
hull_numbers-hull-requires-clause-critical c = place_at c.args.curves.now c.args.budget c.in_ok-chosen.chosen c.in_ok-chosen.chosen.critical refl c.in_ok-chosen.ensures.choice

pub hull_numbers-hull-requires-clause-vertices : goal.hull_numbers-hull-requires-clause-vertices
hull_numbers-hull-requires-clause-vertices c =
    subst (λ l. AreVertices c.args.curves.now l) (sym (c.as_slice.ensures.value ∙ c.into_vec-picks.ensures)) c.in_ok-chosen.ensures.choice.prefix.vertices

pub hull_numbers-hull-requires-clause-price : goal.hull_numbers-hull-requires-clause-price
hull_numbers-hull-requires-clause-price c = (let h = c.in_ok-chosen.ensures.price in record { p = omega (arith, h.0); q = h.2; positive = h.1 })

pub floors_at-requires-clause-vertices : goal.floors_at-requires-clause-vertices
floors_at-requires-clause-vertices c =
    subst (λ l. AreVertices c.args.curves.now l) (sym (c.as_slice-2.ensures.value ∙ c.into_vec-picks.ensures)) c.in_ok-chosen.ensures.choice.prefix.vertices

pub floors_at-requires-clause-price : goal.floors_at-requires-clause-price
floors_at-requires-clause-price c = (let h = c.in_ok-chosen.ensures.price in record { p = omega (arith, h.0); q = h.2; positive = h.1 })

pub fill-requires-clause-vertices : goal.fill-requires-clause-vertices
fill-requires-clause-vertices c = subst (λ l. AreVertices c.args.curves.now l) (sym c.into_vec-picks.ensures) c.in_ok-chosen.ensures.choice.prefix.vertices

pub fill-requires-clause-fits : goal.fill-requires-clause-fits
fill-requires-clause-fits c =
    let cost = c.in_ok-chosen.ensures.choice.cost_is in
    let fits = c.in_ok-chosen.ensures.choice.fits in
    subst (λ l. cost_of (picked c.args.curves.now l) ≤ c.args.budget) (sym c.into_vec-picks.ensures) (omega (arith, cost, fits))

pub filled-requires-clause-vectors : goal.filled-requires-clause-vectors
filled-requires-clause-vectors c = c.requires.curves.vectors

pub filled-requires-clause-vertices : goal.filled-requires-clause-vertices
filled-requires-clause-vertices c = subst (AreVertices c.args.curves.now) (sym c.as_slice-3.ensures.value) c.fill.ensures.vertices

pub filled-requires-clause-critical : goal.filled-requires-clause-critical
filled-requires-clause-critical c =
    let chosen = c.in_ok-chosen.chosen in
    let curves = c.args.curves.now in
    place_some curves (length (line_units c.args.case.now)) c.hull_numbers-hull.result.critical c.requires.curves.count
    (subst (λ o. IfSome o (λ family. family < length curves)) (sym c.hull_numbers-hull.ensures.critical)
    (family_some curves chosen.critical (place_at curves c.args.budget chosen chosen.critical refl c.in_ok-chosen.ensures.choice)))

pub returns-clause-fits : goal.returns-clause-fits
returns-clause-fits c = c.in_ok-stocks.ensures.fits

pub returns-clause-chosen : goal.returns-clause-chosen
returns-clause-chosen c =
    let chosen = c.in_ok-chosen.chosen in
    let curves = c.args.curves.now in
    let budget = c.args.budget in
    let vec = c.into_vec-picks.ensures in
    let one = c.as_slice.ensures.value ∙ vec in
    let two = c.as_slice-2.ensures.value ∙ vec in
    let end = c.as_slice-3.result.now in
    let h = c.hull_numbers-hull.ensures in
    let u = c.hull_numbers-hull.result in
    let f = c.in_ok-stocks.ensures in
    let x = c.in_ok-stocks.stocks in
    record {
      vertices = picked curves end;
      is_plan = λ families areas.
          subst (λ l. IsPlan families budget (picked curves end) l x.numbers) (sym f.floors)
          (subst (λ n. IsPlan families budget (picked curves end) c.in_ok-floors.floors.items n) (sym f.numbers)
          (planned_numbers families curves budget chosen end areas c.in_ok-chosen.ensures.shapes c.in_ok-chosen.ensures.choice
          (subst (λ z. Fills curves budget z end) vec (subst (Fills curves budget c.into_vec-picks.result.items) (sym c.as_slice-3.ensures.value) c.fill.ensures.fills))
          c.in_ok-floors.floors.items u.price u.cost u.bound u.rounding u.critical
          h.cost h.price (c.in_ok-floors.ensures ∙ ap (λ z. map (lagrangian chosen.price.p chosen.price.q) (picked curves z)) two)
          (h.bound ∙ ap (λ z. (total (lagrangian chosen.price.p chosen.price.q) (picked curves z) - chosen.price.p * budget) / chosen.price.q) one)
          (h.rounding ∙ ap (λ z. width_of (picked curves z) + slack curves chosen.critical + 1) one)
          h.critical));
      stocks_are = f.vectors;
      lower_is = f.lower;
    }
