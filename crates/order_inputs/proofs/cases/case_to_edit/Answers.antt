use Rattle.std.proofs.Common.{IsOk, Result, subst, ℕ}
use Rattle.std.proofs.lemmas.Result.{err_from_is_err_and}
use Rattle.answers.specs.Answers.{Gives}
use Rattle.case_tables.specs.Tables.{case_of_tables}
use Rattle.family_points.specs.Counts.{work_of}
use Rattle.refusals.specs.Causes.{or_refuse}
use Rattle.refusals.specs.Lines.{no_names}
use Rattle.refusals.specs.declared.refusal.Refusal.TheVariants as refusal
use Rattle.order_inputs.proofs.Few.{given_if_few, if_few, untold}
use Rattle.order_inputs.proofs.cases.case_to_edit.Goals as goal

pub case_of-requires-clause-sites : goal.case_of-requires-clause-sites
case_of-requires-clause-sites c = c.args.tables.now.sites.within

pub case_of-requires-clause-parts : goal.case_of-requires-clause-parts
case_of-requires-clause-parts c = c.args.tables.now.parts.within

pub case_of-requires-clause-rates : goal.case_of-requires-clause-rates
case_of-requires-clause-rates c = c.args.tables.now.rates.within

pub returns-in_err-case-clause-answer : goal.returns-in_err-case-clause-answer
returns-in_err-case-clause-answer c =
    let p = err_from_is_err_and c.from_residual.result c.from_residual.ensures.1 in
    rw (p.1, p.2) (untold (case_of_tables c.args.tables.now.sites.bytes.now c.args.tables.now.parts.bytes.now c.args.tables.now.rates.bytes.now) _ _ c.in_err-case.ensures)

pub returns-clause-answer : goal.returns-clause-answer
returns-clause-answer c =
    rw c.and.ensures (given_if_few c.in_ok-case.case (case_of_tables c.args.tables.now.sites.bytes.now c.args.tables.now.parts.bytes.now c.args.tables.now.rates.bytes.now)
    c.in_ok-case.ensures work_of c.few_tables.result
    (subst (λ (work : Result ℕ ℕ). Gives {T = ℕ} (or_refuse no_names refusal.Work work) c.few_tables.result) c.work.ensures c.few_tables.ensures))

pub returns-clause-work : goal.returns-clause-work
returns-clause-work c =
    rw c.and.ensures (if_few (λ case. IsOk (work_of case)) c.in_ok-case.case (work_of c.in_ok-case.case) c.few_tables.result
    (subst (λ (work : Result ℕ ℕ). Gives {T = ℕ} (or_refuse no_names refusal.Work work) c.few_tables.result) c.work.ensures c.few_tables.ensures) (λ few. few))
