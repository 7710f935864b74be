use Rattle.std.proofs.Common.{◌≡◌, ◌+◌, ◌∙◌, sym, subst, arith, ap, lit<, rules}
use Rattle.fixed_interval.specs.Ends.{Ends, InScale, IsInterval}
use Rattle.series_bounds.specs.Answer.{IsSum}
use Rattle.series_bounds.specs.Profile.{weight_ends, pivot_at, weights_of}
use Rattle.series_bounds.proofs.Public.{sum_known, weight_listed}
use Rattle.moment_table.specs.Profile.{known_row}
use Rattle.moment_table.specs.Running.{AreSmall, IsRunning, all_weights}
use Rattle.moment_table.proofs.Enclosure.{row_of_known}
use Rattle.moment_table.proofs.Sizes.{weight_short}
use Rattle.moment_table.proofs.Steps.{own_sum}
use Rattle.moment_table.proofs.plain.known.Goals as goal

pub loop-s-init : goal.loop-s-init
loop-s-init g c =
    let running = c.first-running.ensures.running (all_weights g.row.F c.args.mean c.excess_of-excess.result) in
    record {
      is_sum = subst (λ (z : Ends). IsSum g.row.F c.args.mean c.excess_of-excess.result z) (sym running.falling.shares) c.in_ok-sum.ensures.known;
      running = own_sum g.row.F c.args.mean c.args.variance (all_weights g.row.F c.args.mean c.excess_of-excess.result) c.in_ok-sum.sum 0 c.first-running.result running;
      small = c.first-running.ensures.small;
    }

pub of-requires : goal.of-requires
of-requires g c =
    let s : InScale g.row.F = search rules in
    (lit< tt, (lit< tt, weight_short g.row.F c.in_ok-weight.weight.hi s.1 c.in_ok-weight.ensures.top))

pub step-requires : goal.step-requires
step-requires g c =
    (lit< tt, (lit< tt, (omega (arith, c.loop-s-test.true, c.from-s-end.ensures, c.requires.stock), (rw c.of.ensures c.in_ok-weight.ensures.top, c.loop-s.invariant.small))))

pub loop-s-preserved : goal.loop-s-preserved
loop-s-preserved g c =
    let all = all_weights g.row.F c.args.mean c.excess_of-excess.result in
    let sum = c.loop-s.running.falling.shares in
    let running = c.step.ensures.running c.args.mean c.args.variance sum all
    (c.of.ensures ∙ weight_listed g.row.F c.args.mean c.excess_of-excess.result c.in_ok-weight.weight c.loop-s.s (omega (arith, c.loop-s-test.true, c.from-s-end.ensures, c.requires.stock)) c.in_ok-weight.ensures.known)
    c.loop-s.invariant.running in
    record {
      is_sum = subst (λ (z : Ends). IsSum g.row.F c.args.mean c.excess_of-excess.result z) (sym running.falling.shares) c.loop-s.invariant.is_sum;
      running = own_sum g.row.F c.args.mean c.args.variance all sum (c.loop-s.s + 1) c.step.new.self running;
      small = c.step.ensures.small;
    }

pub row-row-requires : goal.row-row-requires
row-row-requires g c =
    let i : c.loop-s.s ≡ c.from-2.result = omega (arith, c.loop-s-test.false, c.loop-s.auto.s-end, c.from-s-end.ensures, c.from-2.ensures) in
    let h : AreSmall g.row.F c.from-2.result c.loop-s.running.falling = subst (λ z. AreSmall g.row.F z c.loop-s.running.falling) i c.loop-s.invariant.small in
    (lit< tt, (lit< tt, (lit< tt, (omega (arith, c.from-2.ensures, c.requires.stock), (rw c.of-2.ensures c.in_ok-last.ensures.top, h)))))

pub returns-clause-row : goal.returns-clause-row
returns-clause-row g c =
    let v : IsInterval g.row.F c.args.mean = search rules in
    let all = all_weights g.row.F c.args.mean c.excess_of-excess.result in
    let sum = c.loop-s.running.falling.shares in
    let i : c.loop-s.s ≡ c.from-2.result = omega (arith, c.loop-s-test.false, c.loop-s.auto.s-end, c.from-s-end.ensures, c.from-2.ensures) in
    let at = c.of-2.ensures
    ∙ weight_listed g.row.F c.args.mean c.excess_of-excess.result c.in_ok-last.last c.from-2.result (omega (arith, c.from-2.ensures, c.requires.stock))
    (c.in_ok-last.ensures.known ∙ ap (weight_ends g.row.F c.args.mean c.excess_of-excess.result) (c.from.ensures ∙ sym c.from-2.ensures)) in
    let running : IsRunning g.row.F c.args.mean c.args.variance all sum c.from-2.result c.loop-s.running =
    subst (λ z. IsRunning g.row.F c.args.mean c.args.variance all sum z c.loop-s.running) i c.loop-s.invariant.running in
    row_of_known g.row.F c.args.mean c.args.variance (pivot_at g.row.F c.args.mean c.excess_of-excess.result) all sum
    c.row-row.result c.args.stock c.requires.stock (omega (arith, c.requires.mean_least, v.ordered))
    (sum_known g.row.F c.args.mean c.excess_of-excess.result sum c.loop-s.invariant.is_sum ∙ ap (weights_of g.row.F c.args.mean) c.excess_of-excess.ensures.ends)
    (c.row-row.ensures c.args.mean c.args.variance sum all at running ∙ ap (known_row g.row.F c.args.mean c.args.variance all sum) c.from-2.ensures)

pub of-requires-2 : goal.of-requires-2
of-requires-2 g c =
    let s : InScale g.row.F = search rules in
    (lit< tt, (lit< tt, weight_short g.row.F c.in_ok-last.last.hi s.1 c.in_ok-last.ensures.top))
