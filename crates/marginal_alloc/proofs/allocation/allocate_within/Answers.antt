use Rattle.std.proofs.Common.{ℕ, ◌+◌, ◌-◌, ◌≤◌, ◌∙◌, lit<, arith}
use Rattle.std.proofs.Math.Dec.{lit≤}
use mir.Val.{Fits}
use mir.Syntax.{w64}
use Rattle.marginal_alloc.proofs.Walking.{finished, shapes_own, stepped, stopped}
use Rattle.marginal_alloc.proofs.allocation.allocate_within.Goals as goal

still_within : (budget cost q : ℕ) → cost ≤ budget → q ≤ budget - cost → cost + q ≤ budget
still_within budget cost q fits step = omega (arith, fits, step)

cost_fits : (budget cost : ℕ) → Fits w64 budget → cost ≤ budget → Fits w64 cost
cost_fits budget cost most fits = omega (arith, most, fits)

pub steps-smaller : goal.steps-smaller
steps-smaller c =
    let s = stepped c.args.curves.now c.steps.walk c.in_ok-walk-2.walk c.in-Some.next c.steps.cost c.steps.invariant.same c.in-Some.ensures.some c.in_ok-walk-2.ensures c.steps.invariant.cost in
    s.smaller

pub steps-preserved : goal.steps-preserved
steps-preserved c =
    let s = stepped c.args.curves.now c.steps.walk c.in_ok-walk-2.walk c.in-Some.next c.steps.cost c.steps.invariant.same c.in-Some.ensures.some c.in_ok-walk-2.ensures c.steps.invariant.cost in
    record { same = s.same; cost = s.cost_is; fits = still_within c.args.budget c.steps.cost c.in-Some.next.price.q c.steps.invariant.fits c.if-next-budget.false }

pub overflow_sub-budget : goal.overflow_sub-budget
overflow_sub-budget c = c.steps.invariant.fits

pub overflow_add-cost : goal.overflow_add-cost
overflow_add-cost c =
    cost_fits c.args.budget (c.steps.cost + c.in-Some.next.price.q) c.ranges.budget
    (still_within c.args.budget c.steps.cost c.in-Some.next.price.q c.steps.invariant.fits c.if-next-budget.false)

pub take-requires : goal.take-requires
take-requires c = (c.in-Some.next.family, c.in-Some.ensures.some.first)

pub returns-then-next-budget-clause-choice : goal.returns-then-next-budget-clause-choice
returns-then-next-budget-clause-choice c =
    stopped c.args.curves.now c.steps.walk c.in-Some.next c.args.budget c.steps.cost c.of.result c.steps.invariant.same c.in-Some.ensures.some c.steps.invariant.cost
    c.steps.invariant.fits c.if-next-budget.true (c.of.ensures ∙ c.into_picks.ensures)

pub returns-then-next-budget-clause-shapes : goal.returns-then-next-budget-clause-shapes
returns-then-next-budget-clause-shapes c = shapes_own c.args.curves.now c.steps.walk c.steps.invariant.same c.in-Some.ensures.some.way

pub returns-then-next-budget-clause-price : goal.returns-then-next-budget-clause-price
returns-then-next-budget-clause-price c = c.in-Some.ensures.some.small

pub returns-clause-choice : goal.returns-clause-choice
returns-clause-choice c =
    finished c.args.curves.now c.steps.walk c.args.budget c.steps.cost c.of-2.result c.steps.invariant.same c.in_default.ensures.none c.steps.invariant.cost
    c.steps.invariant.fits (c.of-2.ensures ∙ c.into_picks-2.ensures)

pub returns-clause-shapes : goal.returns-clause-shapes
returns-clause-shapes c = shapes_own c.args.curves.now c.steps.walk c.steps.invariant.same c.in_default.ensures.none.way

pub returns-clause-price : goal.returns-clause-price
returns-clause-price c = (lit< tt, lit< tt, lit≤ tt)
