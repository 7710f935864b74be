-- The answers of the calls that carry out a command, before a write. No promise of the crate rests on these words.
use Rattle.std.specs.Prelude.{◌≡◌, ◌⊎◌, ⊤, ℕ, List, Option, IsSomeAnd, Result, Ok, Err}
use Rattle.spares_io.specs.Causes.{Rose}
use Rattle.spares_io.specs.Shelf.{Files, KeepsOthers}
use Rattle.answers.specs.declared.stop.Stop.{Stop}
use Rattle.answers.specs.declared.stop.Stop.TheVariants as stop
use Rattle.spares_words.specs.declared.order.Order.{Order}
use Rattle.order_inputs.specs.Files.{Reads, inputs}
use Rattle.command_outcomes.specs.declared.done.TaskOutcome.{TaskOutcome}
use Rattle.command_outcomes.specs.declared.done.Written.{Written}
use Rattle.refusals.specs.declared.failure.Failure.{Failure}
use Rattle.refusals.specs.declared.refusal.Refusal.TheVariants as refusal
use Rattle.answers.specs.Steps.{◌>>=◌}
use Rattle.refusals.specs.Causes.{plain_failure}
use Rattle.command_outcomes.specs.Headline.{IsTrue}
use Rattle.command_outcomes.specs.State.{HasDelivered, HasFailed, IsUntouched, Scene}
use Rattle.command_outcomes.specs.Task.{Fulfils, Task, task_on}
use Rattle.command_outcomes.specs.Texts.{CanPrint}

-- this task, or this refusal
abbrev pub Is : Result Task Failure → Result Task Failure → Type 0
Is task t = t ≡ task

-- the task of an order, or the reason why it is refused, from the result of reading
pub record ComesOf (order : Order) (told : Option Files) (before now : List ℕ → ℕ) (task : Result Task Failure) :
    Type 0 where
  pub read : Result (List (List ℕ)) Failure
  pub reads : Reads told before now (inputs order) read
  pub task_is : task ≡ (read >>= task_on order)

-- an outcome of a due task; it is true and can be printed
pub record IsMade (IsDue : Result Task Failure → Type 0) (outcome : TaskOutcome) : Type 0 where
  pub task : Task
  pub is_due : IsDue (Ok task)
  pub fulfils : Fulfils task outcome
  pub is_true : IsTrue task outcome
  pub prints : CanPrint outcome.done

-- the outcome of a due task, or its refusal; want of memory may always come
abbrev pub MakesBy : (Result Task Failure → Type 0) → Result TaskOutcome (Stop Failure) → Type 0
MakesBy IsDue (Ok outcome) = IsMade IsDue outcome
MakesBy IsDue (Err stop.NoMemory) = ⊤
MakesBy IsDue (Err (stop.Fault failure)) = IsDue (Err failure)

-- the reason why a write was refused, and the state after it: the files, and the counts of failed writes
abbrev pub WriteRefused : Option Written → Option Files → Option Files → (List ℕ → ℕ) → (List ℕ → ℕ) → Failure → Type 0
WriteRefused writes old new before now failure =
    ((failure ≡ plain_failure refusal.NoMemory) × (new ≡ old))
    ⊎ ((failure ≡ plain_failure refusal.WriteFault)
    × IsSomeAnd writes (λ w. KeepsOthers w.name old new × Rose (before w.name) (now w.name)))

-- the state after a delivery that failed
abbrev pub HasNotDelivered : TaskOutcome → Scene → Scene → Failure → Type 0
HasNotDelivered outcome old new failure =
    ((failure ≡ plain_failure refusal.NoMemory) × IsUntouched old new)
    ⊎ ((failure ≡ plain_failure refusal.WriteFault) × HasFailed outcome old new)

-- the state after the delivery of an outcome
abbrev pub Delivers : {A : Type 0} → TaskOutcome → Scene → Scene → Result A Failure → Type 0
Delivers outcome old new (Ok done) = HasDelivered outcome old new
Delivers outcome old new (Err failure) = HasNotDelivered outcome old new failure
