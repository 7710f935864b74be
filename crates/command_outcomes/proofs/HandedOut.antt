-- The report of an outcome is handed out once it is delivered.
use Rattle.std.proofs.Common.{◌≡◌, refl, IfOk, Result, Ok, Err}
use Rattle.std.specs.Result.{result_and}
use Rattle.refusals.specs.declared.failure.Failure.{Failure}
use Rattle.command_outcomes.specs.Making.{Delivers}
use Rattle.command_outcomes.specs.State.{Scene}
use Rattle.command_outcomes.specs.declared.done.Done.{Done}
use Rattle.command_outcomes.specs.declared.done.TaskOutcome.{TaskOutcome}

-- the state after a delivery stays so
pub still_delivers : {A : Type 0} (outcome : TaskOutcome) (old new : Scene) (r : Result A Failure) (done : Done) → Delivers outcome old new r
    → Delivers outcome old new (result_and r (Ok done))
still_delivers outcome old new (Ok a) done h = h
still_delivers outcome old new (Err failure) done h = h

-- and what is handed out is the report
pub is_handed : {A : Type 0} (r : Result A Failure) (done : Done) → IfOk (result_and r (Ok done)) (λ d. d ≡ done)
is_handed (Ok a) done = refl
is_handed (Err failure) done = tt
