use Rattle.std.proofs.Common.{Result, refl, subst, ℕ}
use Rattle.std.proofs.lemmas.Result.{err_from_is_err_and}
use Rattle.answers.specs.Answers.{Gives}
use Rattle.case_tables.specs.Tables.{accepted_of}
use Rattle.family_points.specs.Counts.{work_of}
use Rattle.refusals.specs.Causes.{or_refuse}
use Rattle.refusals.specs.Lines.{no_names}
use Rattle.refusals.specs.declared.refusal.Refusal.TheVariants as refusal
use Rattle.order_inputs.specs.Given.{CanPlan}
use Rattle.order_inputs.proofs.Few.{if_few, told_if_few, unrated}
use Rattle.order_inputs.proofs.cases.case_within_work.Goals as goal

pub accepted_of-requires-clause-sites : goal.accepted_of-requires-clause-sites
accepted_of-requires-clause-sites c = c.args.tables.now.sites.within

pub accepted_of-requires-clause-parts : goal.accepted_of-requires-clause-parts
accepted_of-requires-clause-parts c = c.args.tables.now.parts.within

pub accepted_of-requires-clause-rates : goal.accepted_of-requires-clause-rates
accepted_of-requires-clause-rates c = c.args.tables.now.rates.within

pub returns-in_err-given-clause-answer : goal.returns-in_err-given-clause-answer
returns-in_err-given-clause-answer c =
    let p = err_from_is_err_and c.from_residual.result c.from_residual.ensures.1 in
    rw (p.1, p.2) (unrated (accepted_of c.args.tables.now.sites.bytes.now c.args.tables.now.parts.bytes.now c.args.tables.now.rates.bytes.now) _ _ c.in_err-given.ensures.answer)

pub returns-in_err-given-clause-given : goal.returns-in_err-given-clause-given
returns-in_err-given-clause-given c = let p = err_from_is_err_and c.from_residual.result c.from_residual.ensures.1 in rw p.1 tt

pub returns-clause-answer : goal.returns-clause-answer
returns-clause-answer c =
    rw c.and.ensures (told_if_few c.in_ok-given.given.case (accepted_of c.args.tables.now.sites.bytes.now c.args.tables.now.parts.bytes.now c.args.tables.now.rates.bytes.now)
    c.in_ok-given.ensures.answer work_of c.few_tables.result
    (subst (λ (work : Result ℕ ℕ). Gives {T = ℕ} (or_refuse no_names refusal.Work work) c.few_tables.result) c.work.ensures c.few_tables.ensures) c.in_ok-given.given refl)

pub returns-clause-given : goal.returns-clause-given
returns-clause-given c =
    rw c.and.ensures (if_few CanPlan c.in_ok-given.given (work_of c.in_ok-given.given.case) c.few_tables.result
    (subst (λ (work : Result ℕ ℕ). Gives {T = ℕ} (or_refuse no_names refusal.Work work) c.few_tables.result) c.work.ensures c.few_tables.ensures) (λ few. record {
      rates = c.in_ok-given.ensures.rates;
      accepted = record { valid = c.invariant.ensures.valid; no_fault = c.in_ok-given.ensures.rates.no_fault };
      work = few;
    }))
