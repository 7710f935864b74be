use Rattle.std.proofs.Common.{◌^◌, ◌*◌, ◌-◌, ◌≤◌, ◌≡◌, ◌∙◌, arith, ap, rules, lit<}
use Rattle.fixed_interval.specs.Ends.{Ends, InScale}
use Rattle.fixed_interval.proofs.Public.{unit_most}
use Rattle.series_bounds.specs.Profile.{back_ends, pivot_at}
use Rattle.series_bounds.proofs.Walks.{descent_start, descent_top, descent_next, descent_wide, descent_done}
use Rattle.series_bounds.proofs.walk.down.Goals as goal

pub loop-step-init : goal.loop-step-init
loop-step-init g c = rw (c.in_ok-push.ensures.items, c.requires.empty)
    (descent_start g.row.F c.args.mean c.args.excess c.one-term.result c.one-term.ensures)

pub times-term-requires : goal.times-term-requires
times-term-requires g c =
    let s : InScale g.row.F = search rules in
    let t : c.loop-step.term.hi ≤ 8 * 2 ^ g.row.F = descent_top g.row.F c.args.mean c.args.excess c.loop-step.list.items c.loop-step.term c.loop-step.step c.loop-step.invariant in
    (lit< tt, (t, omega (arith, ap (λ (z : Ends). z.hi) c.of-back.ensures, c.back_at.ensures.top)))

pub returns-then-hi-most-clause-wide : goal.returns-then-hi-most-clause-wide
returns-then-hi-most-clause-wide g c =
    let p : c.from.result ≡ pivot_at g.row.F c.args.mean c.args.excess = c.from.ensures ∙ c.requires.place in
    λ _. descent_wide g.row.F c.args.mean c.args.excess c.loop-step.list.items c.loop-step.term c.times-term.result c.of-back.result c.loop-step.step c.loop-step.invariant
    (omega (arith, c.loop-step-test.true, c.from-step-end.ensures, c.requires.place))
    (c.of-back.ensures ∙ c.back_at.ensures.ends ∙ ap (λ z. back_ends g.row.F c.args.mean c.args.excess (z - c.loop-step.step)) p)
    c.times-term.ensures (omega (arith, c.if-hi-most.true, c.most_weight-most.ensures, c.hi.ensures.end))

pub loop-step-preserved : goal.loop-step-preserved
loop-step-preserved g c =
    let p : c.from.result ≡ pivot_at g.row.F c.args.mean c.args.excess = c.from.ensures ∙ c.requires.place in
    rw c.in_ok-push-2.ensures.items
    (descent_next g.row.F c.args.mean c.args.excess c.loop-step.list.items c.loop-step.term c.times-term.result c.of-back.result c.loop-step.step c.loop-step.invariant
    (omega (arith, c.loop-step-test.true, c.from-step-end.ensures, c.requires.place))
    (c.of-back.ensures ∙ c.back_at.ensures.ends ∙ ap (λ z. back_ends g.row.F c.args.mean c.args.excess (z - c.loop-step.step)) p)
    c.times-term.ensures (omega (arith, c.if-hi-most.false, c.most_weight-most.ensures, c.hi.ensures.end)))

pub returns-clause-known : goal.returns-clause-known
returns-clause-known g c = λ _. rw c.reverse.ensures.items
    (descent_done g.row.F c.args.mean c.args.excess c.loop-step.list.items c.loop-step.term c.loop-step.step
    (omega (arith, c.loop-step-test.false, c.loop-step.auto.step-end, c.from-step-end.ensures, c.requires.place)) c.loop-step.invariant)

pub of-back-requires : goal.of-back-requires
of-back-requires g c =
    let s : InScale g.row.F = search rules in
    (lit< tt, omega (arith, c.back_at.ensures.top, unit_most g.row.F s.1))
