-- The answer to an order: a report or a refusal, with its cause, and the state after it.
use Rattle.std.specs.Prelude.{◌≡◌, ℕ, List, IsOk, Result, Ok, Err}
use Rattle.answers.specs.declared.stop.Stop.{Stop}
use Rattle.answers.specs.declared.stop.Stop.TheVariants as stop
use Rattle.spares_words.specs.declared.order.Order.{Order}
use Rattle.spares_words.specs.declared.order.WordsFault.{WordsFault}
use Rattle.order_inputs.specs.Files.{Reads, StopsAt, inputs_of}
use Rattle.command_outcomes.specs.declared.done.Done.{Done}
use Rattle.command_outcomes.specs.declared.done.TaskOutcome.{TaskOutcome}
use Rattle.refusals.specs.declared.failure.Failure.{Failure}
use Rattle.refusals.specs.declared.refusal.Refusal.{Refusal}
use Rattle.refusals.specs.declared.refusal.Refusal.TheVariants as refusal
use Rattle.refusals.specs.Causes.{Kind, of_words, of_reading, of_writing, of_memory, of_task, kind_of, plain_failure}
use Rattle.command_outcomes.specs.Headline.{IsTrue}
use Rattle.command_outcomes.specs.State.{HasDelivered, HasFailed, IsUntouched, Scene}
use Rattle.command_outcomes.specs.Task.{Fulfils, Task, task_on_words}

-- The bytes of an order's inputs. If the contents of the shelf are known, these are the bytes that it holds. If they
-- aren't, these are some bytes, and every statement about one answer is about the same bytes.
pub record HaveGiven (order : Result Order WordsFault) (old new : Scene) (bytes : List (List ℕ)) : Type 0 where
  pub reads : Reads old.held old.read_faults new.read_faults (inputs_of order) (Ok bytes)

-- this task is due, on the bytes of the inputs
pub record IsDue (order : Result Order WordsFault) (old new : Scene) (task : Task) : Type 0 where
  pub bytes : List (List ℕ)
  pub given : HaveGiven order old new bytes
  pub is_due : task_on_words order bytes ≡ Ok task

-- a report was delivered: its task is due, the outcome fulfils it, and the report is true of it
pub record IsDone (order : Result Order WordsFault) (old new : Scene) (done : Done) : Type 0 where
  pub task : Task
  pub is_due : IsDue order old new task
  pub outcome : TaskOutcome
  pub done_is : outcome.done ≡ done
  pub fulfils : Fulfils task outcome
  pub is_true : IsTrue task outcome
  pub delivered : HasDelivered outcome old new

-- the refusal of words that are no order, or of want of memory for them
abbrev pub words_refusal : Stop WordsFault → Refusal
words_refusal stop.NoMemory = refusal.NoMemory
words_refusal (stop.Fault fault) = refusal.Words fault

-- the words are no order
pub record IsWordless (order : Result Order WordsFault) (fault : WordsFault) (old new : Scene) (failure : Failure) :
    Type 0 where
  pub order_is : order ≡ Err fault
  pub failure_is : failure ≡ plain_failure (refusal.Words fault)
  pub untouched : IsUntouched old new

-- an input wasn't read, after all inputs before it were
pub record IsUnreadable (order : Result Order WordsFault) (old new : Scene) (failure : Failure) : Type 0 where
  pub stops : StopsAt old.held old.read_faults new.read_faults (inputs_of order) failure
  pub untouched : IsUntouched old new

-- the task is refused, on the bytes of the inputs
pub record IsRefused (order : Result Order WordsFault) (old new : Scene) (failure : Failure) : Type 0 where
  pub bytes : List (List ℕ)
  pub given : HaveGiven order old new bytes
  pub is_refused : task_on_words order bytes ≡ Err failure
  pub has_order : IsOk order
  pub untouched : IsUntouched old new

-- The outcome of a due task could not be delivered. It fulfils the task and is true of it, so if the put failed, the
-- written certificate is true of its case.
pub record IsUndelivered (order : Result Order WordsFault) (old new : Scene) (failure : Failure) : Type 0 where
  pub failure_is : failure ≡ plain_failure refusal.WriteFault
  pub task : Task
  pub is_due : IsDue order old new task
  pub outcome : TaskOutcome
  pub fulfils : Fulfils task outcome
  pub is_true : IsTrue task outcome
  pub failed : HasFailed outcome old new

-- there was no memory
pub record IsWant (old new : Scene) (failure : Failure) : Type 0 where
  pub failure_is : failure ≡ plain_failure refusal.NoMemory
  pub untouched : IsUntouched old new

-- A refusal answers the order, by the kind of its cause.
abbrev pub RefusesBy : Result Order WordsFault → Scene → Scene → Failure → Kind → Type 0
RefusesBy order old new failure (of_words fault) = IsWordless order fault old new failure
RefusesBy order old new failure (of_reading file) = IsUnreadable order old new failure
RefusesBy order old new failure of_task = IsRefused order old new failure
RefusesBy order old new failure of_writing = IsUndelivered order old new failure
RefusesBy order old new failure of_memory = IsWant old new failure

-- A report, or a refusal by the kind of its cause.
abbrev pub Answers : Result Order WordsFault → Scene → Scene → Result Done Failure → Type 0
Answers order old new (Ok done) = IsDone order old new done
Answers order old new (Err failure) = RefusesBy order old new failure (kind_of failure.refusal)
