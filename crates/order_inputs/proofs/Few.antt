-- The answer of a call that reads a case and then looks at its work.
use Rattle.std.proofs.Common.{◌≡◌, ap, arith, refl, Result, Ok, Err, ℕ, IfOk, IsOk}
use Rattle.std.specs.Result.{result_and}
use Rattle.answers.specs.Answers.{Gives}
use Rattle.answers.specs.Steps.{◌>>=◌}
use Rattle.answers.specs.declared.stop.Stop.{Stop}
use Rattle.answers.specs.declared.stop.Stop.TheVariants as stop
use Rattle.case_tables.specs.Answers.{Tells}
use Rattle.case_tables.specs.declared.AcceptedCase.{AcceptedCase}
use Rattle.refusals.specs.Causes.{or_refuse}
use Rattle.refusals.specs.Lines.{no_names}
use Rattle.refusals.specs.declared.failure.Failure.{Failure}
use Rattle.refusals.specs.declared.refusal.Refusal.TheVariants as refusal
use Rattle.spares_input.specs.Cases.{CaseRows}

-- tables that give no rated case
pub unrated : (given : Result CaseRows Failure) (next : CaseRows → Result CaseRows Failure) (e : Stop Failure) → Tells given (Err e) → Tells (given >>= next) (Err e)
unrated given next stop.NoMemory h = tt
unrated given next (stop.Fault failure) h = ap (λ (r : Result CaseRows Failure). r >>= next) h

-- tables that give no case
pub untold : (given : Result CaseRows Failure) (next : CaseRows → Result CaseRows Failure) (e : Stop Failure) → Gives given (Err e) → Gives (given >>= next) (Err e)
untold given next stop.NoMemory h = tt
untold given next (stop.Fault failure) h = ap (λ (r : Result CaseRows Failure). r >>= next) h

-- what follows from few enough tables holds of a value that is answered only then
pub if_few : {T : Type 0} (P : T → Type 0) (x : T) (work : Result ℕ ℕ) (few : Result ℕ (Stop Failure)) → Gives (or_refuse no_names refusal.Work work) few
    → (IsOk work → P x) → IfOk (result_and few (Ok x)) P
if_few P x work (Err s) h p = tt
if_few P x (Ok count) (Ok n) h p = p refl
if_few P x (Err count) (Ok n) h p = grind (arith, h)

module _ (c : CaseRows) (given : Result CaseRows Failure) (is_given : given ≡ Ok c) (work : CaseRows → Result ℕ ℕ) where
  abbrev within_work : Result CaseRows Failure
  within_work = given >>= λ case. (or_refuse no_names refusal.Work (work case) >>= λ count. Ok case)

  -- a case with its rates, if its work isn't refused
  pub told_if_few : (few : Result ℕ (Stop Failure)) → Gives (or_refuse no_names refusal.Work (work c)) few → (x : AcceptedCase) → c ≡ x.case
      → Tells within_work (result_and few (Ok x))
  told_if_few (Ok n) h x e = rw (is_given, h, e) refl
  told_if_few (Err stop.NoMemory) h x e = tt
  told_if_few (Err (stop.Fault failure)) h x e = rw (is_given, h) refl

  -- the same of a case to edit
  pub given_if_few : (few : Result ℕ (Stop Failure)) → Gives (or_refuse no_names refusal.Work (work c)) few → Gives within_work (result_and few (Ok c))
  given_if_few (Ok n) h = rw (is_given, h) refl
  given_if_few (Err stop.NoMemory) h = tt
  given_if_few (Err (stop.Fault failure)) h = rw (is_given, h) refl
