use Rattle.std.proofs.Common.{◌∙◌, ◌*◌, ◌^◌, ◌≤◌, ap, arith, subst, zero-lt-suc, ℕ}
use Rattle.list_laws.proofs.Public.{ceil_most}
use Rattle.fixed_interval.specs.Ends.{In, ends_ratio}
use Rattle.fleet_model.specs.Rows.{ten_thousandths}
use Rattle.command_outcomes.proofs.pipeline.interval_of.Goals as goal

pub returns-clause-ends : goal.returns-clause-ends
returns-clause-ends c = c.of_ratio.ensures.ends ∙ ap (λ (n : ℕ). ends_ratio 48 n 10000) c.from.ensures

pub returns-clause-encloses : goal.returns-clause-encloses
unfolding ten_thousandths
returns-clause-encloses c =
    subst (λ (n : ℕ). In 48 c.of_ratio.result (record { num = n; den = 10000; positive = zero-lt-suc 9999 })) c.from.ensures
    (c.of_ratio.ensures.encloses (zero-lt-suc 9999))

small : (n : ℕ) → n ≤ 2560000 → (ends_ratio 48 n 10000).hi ≤ 256 * 2 ^ 48
small n most = ceil_most (n * 2 ^ 48) 10000 (256 * 2 ^ 48) (zero-lt-suc 9999) (omega arith)

pub returns-clause-small : goal.returns-clause-small
returns-clause-small c =
    rw (c.of_ratio.ensures.ends ∙ ap (λ (n : ℕ). ends_ratio 48 n 10000) c.from.ensures) (small c.args.units c.requires)
