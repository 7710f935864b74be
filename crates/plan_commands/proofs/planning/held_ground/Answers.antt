use Rattle.std.proofs.Common.{Result, Some, refl, subst, ℕ}
use Rattle.std.proofs.lemmas.Result.{err_from_is_err_and}
use Rattle.answers.specs.Answers.{Gives}
use Rattle.case_tables.specs.declared.Stocked.{Stocked}
use Rattle.held_work.specs.Work.{held_work_of}
use Rattle.price_certificate.specs.declared.certificate.Terms.{Terms}
use Rattle.refusals.specs.Causes.{or_refuse}
use Rattle.refusals.specs.Lines.{no_names}
use Rattle.refusals.specs.declared.refusal.File.TheVariants.{OnHand}
use Rattle.refusals.specs.declared.refusal.Refusal.TheVariants as refusal
use Rattle.order_inputs.proofs.Public.{if_few}
use Rattle.order_inputs.specs.Cases.{stocked_by}
use Rattle.order_inputs.specs.Given.{bytes_of}
use Rattle.plan_commands.specs.Planning.{IsGround}
use Rattle.plan_commands.specs.declared.planning.Ground.{Ground}
use Rattle.plan_commands.proofs.Grounds.{ground_if_few, unstocked}
use Rattle.plan_commands.proofs.planning.held_ground.Goals as goal

-- the ground of a case with stocks on hand
abbrev ground_at : Stocked → Terms → Ground
ground_at x terms = record { given = record { case = x.case; rates = x.rates }; on_hand = Some x.stocks; terms = terms }

pub returns-in_err-case-clause-answer : goal.returns-in_err-case-clause-answer
returns-in_err-case-clause-answer c =
    let p = err_from_is_err_and c.from_residual.result c.from_residual.ensures.1 in
    rw (p.1, p.2) (unstocked (stocked_by OnHand (bytes_of c.args.tables.now) c.args.stocks.now.bytes.now) _ _ c.in_err-case.ensures.answer)

pub returns-in_err-case-clause-ground : goal.returns-in_err-case-clause-ground
returns-in_err-case-clause-ground c = let p = err_from_is_err_and c.from_residual.result c.from_residual.ensures.1 in rw p.1 tt

pub held_work-requires : goal.held_work-requires
held_work-requires c = record { held = c.in_ok-case.ensures.given.stocks }

pub returns-clause-answer : goal.returns-clause-answer
returns-clause-answer c =
    rw c.and.ensures (ground_if_few (ground_at c.in_ok-case.field-0 c.args.terms) c.in_ok-case.field-0.stocks
    (stocked_by OnHand (bytes_of c.args.tables.now) c.args.stocks.now.bytes.now) c.in_ok-case.ensures.answer refl c.few_tables.result
    (subst (λ (work : Result ℕ ℕ). Gives {T = ℕ} (or_refuse no_names refusal.Work work) c.few_tables.result) c.held_work.ensures c.few_tables.ensures))

pub returns-clause-ground : goal.returns-clause-ground
returns-clause-ground c =
    let given = c.in_ok-case.ensures.given in
    rw c.and.ensures (if_few IsGround (ground_at c.in_ok-case.field-0 c.args.terms) (held_work_of c.in_ok-case.field-0.case c.in_ok-case.field-0.stocks.list) c.few_tables.result
    (subst (λ (work : Result ℕ ℕ). Gives {T = ℕ} (or_refuse no_names refusal.Work work) c.few_tables.result) c.held_work.ensures c.few_tables.ensures) (λ few. record {
      accepted = record { valid = c.invariant.ensures.valid; no_fault = given.rates.no_fault };
      rates = given.rates;
      held = given.stocks;
      work = few;
      terms = c.requires.terms;
      format = c.requires.format;
    }))
