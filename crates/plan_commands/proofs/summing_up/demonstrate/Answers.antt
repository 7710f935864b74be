use Rattle.std.proofs.Common.{ℕ, ◌*◌, ap, subst, sym}
use Rattle.certified_plan.specs.Inputs.{AreTerms}
use Rattle.demo_accepts.specs.Demonstrations.{IsDemonstrated, demo_terms}
use Rattle.plan_report.specs.Fits.{FitsSummary}
use Rattle.plan_commands.proofs.Told.{after_call, are_terms, demo_work, is_demonstrated, on_plan, sums_fit}
use Rattle.plan_commands.proofs.summing_up.demonstrate.Goals as goal

pub plan_case-requires-clause-work : goal.plan_case-requires-clause-work
plan_case-requires-clause-work c =
    demo_work c.args.number c.args.lines c.in_ok-case.case c.in_ok-held.held c.requires.few c.in_ok-case.ensures.case c.in_ok-held.ensures.held

pub confirm_plan-requires-clause-nothing : goal.confirm_plan-requires-clause-nothing
confirm_plan-requires-clause-nothing c = c.in_ok-held.ensures.held

pub confirm_plan-requires-clause-work : goal.confirm_plan-requires-clause-work
confirm_plan-requires-clause-work c =
    demo_work c.args.number c.args.lines c.in_ok-case.case c.in_ok-held.held c.requires.few c.in_ok-case.ensures.case c.in_ok-held.ensures.held

pub confirm_plan-requires-clause-plan : goal.confirm_plan-requires-clause-plan
confirm_plan-requires-clause-plan c =
    on_plan c.in_ok-case.case c.in_ok-held.held (2000 * c.from-budget.result)
    (subst (λ (n : ℕ). AreTerms (demo_terms (2000 * n))) (sym c.from-budget.ensures) (are_terms c.args.lines c.requires.few))
    c.part_count-parts.ensures.valid c.in_ok-case.ensures.rates.no_fault c.in_ok-held.ensures.stocks
    c.in_ok-plan.plan c.in_ok-plan.ensures

pub returns-clause-summary : goal.returns-clause-summary
returns-clause-summary c =
    rw c.and.ensures (after_call (IsDemonstrated c.args.number c.args.lines) c.summary_of-summary.result c.confirm_plan.result
    (subst (IsDemonstrated c.args.number c.args.lines) (sym c.summary_of-summary.ensures)
    (is_demonstrated c.in_ok-case.case c.in_ok-held.held (2000 * c.from-budget.result)
    (subst (λ (n : ℕ). AreTerms (demo_terms (2000 * n))) (sym c.from-budget.ensures) (are_terms c.args.lines c.requires.few))
    c.part_count-parts.ensures.valid c.in_ok-case.ensures.rates.no_fault c.in_ok-held.ensures.stocks
    c.in_ok-plan.plan c.in_ok-plan.ensures c.args.number c.args.lines c.part_count-parts.result c.in_ok-case.ensures.case c.in_ok-held.ensures.held
    (ap (λ (n : ℕ). 2000 * n) c.from-budget.ensures) c.part_count-parts.ensures.count)))

pub returns-clause-fits : goal.returns-clause-fits
returns-clause-fits c =
    rw c.and.ensures (after_call FitsSummary c.summary_of-summary.result c.confirm_plan.result
    (subst FitsSummary (sym c.summary_of-summary.ensures)
    (sums_fit c.in_ok-case.case c.in_ok-held.held (2000 * c.from-budget.result)
    (subst (λ (n : ℕ). AreTerms (demo_terms (2000 * n))) (sym c.from-budget.ensures) (are_terms c.args.lines c.requires.few))
    c.part_count-parts.ensures.valid c.in_ok-case.ensures.rates.no_fault c.in_ok-held.ensures.stocks
    c.in_ok-plan.plan c.in_ok-plan.ensures c.args.number c.args.lines c.part_count-parts.result)))
