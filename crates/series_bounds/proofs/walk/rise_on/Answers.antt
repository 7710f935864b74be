use Rattle.std.proofs.Common.{ℕ, ◌≡◌, ◌≤◌, arith, rules}
use Rattle.fixed_interval.specs.Ends.{Ends, IsInterval}
use Rattle.series_bounds.specs.Walk.{AtIndex, Midway}
use Rattle.series_bounds.proofs.Walks.{end_from_63, end_most}
use Rattle.series_bounds.proofs.Unlisted.{climb_from, climb_least, climb_stays}
use Rattle.series_bounds.proofs.walk.rise_on.Goals as goal

-- a walk at 63 stands at the first index at which the list may end
midway_63 : (f : ℕ) (m d last sum : Ends) (x : ℕ) → AtIndex f m d sum last x → x ≡ 63 → Midway f m d sum last x
midway_63 f m d last sum x h e =
    let climb = climb_from f m d last sum x h (omega (arith, e)) in
    let least = end_most f m d x h.past (omega (arith, e)) in
    let most = end_from_63 f m d in
    climb_least f m d last sum x climb (omega (arith, e, least, most))

pub returns-then-stays-clause-known : goal.returns-then-stays-clause-known
returns-then-stays-clause-known g c =
    let v : IsInterval g.row.F c.args.mean = search rules in
    let w = c.in_ok-walked.walked in
    let x : w.next ≤ 63 = omega (arith, c.in_ok-walked.ensures.onward, c.in_ok-once.ensures.onward, c.loop-walked-test.true) in
    climb_stays g.row.F c.args.mean c.args.excess w.last w.sum w.next
    (climb_from g.row.F c.args.mean c.args.excess w.last w.sum w.next c.in_ok-walked.ensures.known x) (omega (arith, v.ordered, c.requires.positive))
    (omega (arith, x, end_from_63 g.row.F c.args.mean c.args.excess)) (c.stays.ensures c.if-stays.true)

pub returns-then-walked-lt-FIRST_END-clause-known : goal.returns-then-walked-lt-FIRST_END-clause-known
returns-then-walked-lt-FIRST_END-clause-known g c =
    let w = c.in_ok-end.end in
    midway_63 g.row.F c.args.mean c.args.excess w.last w.sum w.next c.in_ok-end.ensures.known
    (omega (arith, c.in_ok-end.ensures.onward, c.loop-walked-test.false, c.if-walked-lt-FIRST_END.true))

pub returns-clause-known : goal.returns-clause-known
returns-clause-known g c =
    let w = c.loop-walked.walked in
    midway_63 g.row.F c.args.mean c.args.excess w.last w.sum w.next c.loop-walked.invariant.at
    (omega (arith, c.loop-walked.invariant.within, c.if-walked-lt-FIRST_END.false))
