use Rattle.std.proofs.Common.{◌≡◌, ℕ, ◌+◌, ◌-◌, ◌*◌, ◌∙◌, ap, ap₂, arith, lit<}
use Rattle.fixed_interval.specs.Ends.{Ends, ends_times}
use Rattle.metric_compare.specs.Profile.{poisson_weighed}
use Rattle.metric_compare.proofs.Adding.{sums_next, times_small}
use Rattle.metric_compare.proofs.totals.family_total.Goals as goal

pub times-requires : goal.times-requires
times-requires c =
    let top = times_small c.number_at-base.result c.weight-weight.result c.number_at-base.ensures.small c.weight-weight.ensures.most in
    (lit< tt, omega (arith, top))

pub add-total-requires : goal.add-total-requires
add-total-requires c =
    let top = times_small c.number_at-base.result c.weight-weight.result c.number_at-base.ensures.small c.weight-weight.ensures.most in
    let t : c.times.result.hi ≡ c.number_at-base.result.hi * c.weight-weight.result = ap (λ (x : Ends). x.hi) c.times.ensures.ends in
    (lit< tt, omega (arith, top, t, c.loop-j.auto.j, c.loop-j.invariant.top))

pub loop-j-preserved : goal.loop-j-preserved
loop-j-preserved c =
    let top = times_small c.number_at-base.result c.weight-weight.result c.number_at-base.ensures.small c.weight-weight.ensures.most in
    let t : c.times.result.hi ≡ c.number_at-base.result.hi * c.weight-weight.result = ap (λ (x : Ends). x.hi) c.times.ensures.ends in
    sums_next (poisson_weighed 48 c.args.inputs.now.case c.args.inputs.now.stocks.list c.args.line.0) 1 (c.loop-j.j - 1) (c.loop-j.j + 1 - 1) c.loop-j.j 7205759403792793600
    c.loop-j.total c.times.result c.add-total.result c.loop-j.invariant (omega (arith, c.loop-j.auto.j)) (omega (arith, c.loop-j.auto.j))
    (c.times.ensures.ends ∙ ap₂ (λ (x : Ends) (n : ℕ). ends_times x n) c.number_at-base.ensures.ends c.weight-weight.ensures.weight) (omega (arith, top, t)) c.add-total.ensures.ends
