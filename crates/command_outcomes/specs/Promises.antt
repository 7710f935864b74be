-- The promises of `run`.
use Rattle.std.specs.Prelude.{◌≡◌, ◌⊎◌, [], ℕ, List, Option, Some, None, IsErrOf, IsOkAnd, IfSome, MatchResult, Result, Ok, Err}
use Rattle.spares_io.specs.Causes.{Rose}
use Rattle.spares_io.specs.Shelf.{Files}
use Rattle.spares_io.specs.Sink.{Gains, GainsPart}
use Rattle.spares_words.specs.Order.{order_of}
use Rattle.spares_words.specs.declared.order.Order.{Order}
use Rattle.spares_words.specs.declared.order.WordsFault.{WordsFault}
use Rattle.order_inputs.specs.Files.{NoneRose, StandStill, inputs_of, output_of}
use Rattle.command_outcomes.specs.declared.done.Done.{Done}
use Rattle.command_outcomes.specs.declared.done.TaskOutcome.{TaskOutcome}
use Rattle.refusals.specs.declared.failure.Failure.{Failure}
use Rattle.refusals.specs.declared.refusal.Refusal.{Refusal}
use Rattle.refusals.specs.declared.refusal.Refusal.TheVariants as refusal
use Rattle.command_outcomes.specs.Answer.{Answers}
use Rattle.refusals.specs.Causes.{plain_failure}
use Rattle.command_outcomes.specs.State.{Scene}
use Rattle.command_outcomes.specs.Task.{Fulfils, Task, task_of}

-- The promises of an order's answer.
pub record Performs (order : Result Order WordsFault) (old new : Scene) (result : Result Done Failure) : Type 0 where
  -- the answer, its cause, the state after it, and the headline
  pub answers : Answers order old new result
  -- no read is counted if no file is used, and no write if none is written
  pub reads : inputs_of order ≡ [] → StandStill old.read_faults new.read_faults
  pub writes : output_of order ≡ None → StandStill old.write_faults new.write_faults

-- these files are the known contents of the shelf, or the order uses no file
abbrev pub Serves : Result Order WordsFault → Option Files → Files → Type 0
Serves order told held = (told ≡ Some held) ⊎ (inputs_of order ≡ [])

-- no read of an input failed, no write of the output's name, and no put
pub record NoneFailed (order : Result Order WordsFault) (old new : Scene) : Type 0 where
  pub reads : NoneRose old.read_faults new.read_faults (inputs_of order)
  pub writes : IfSome (output_of order) (λ name. ¬ Rose (old.write_faults name) (new.write_faults name))
  pub puts : ¬ Rose old.faults new.faults

-- the answer is a report that fulfils this task
abbrev pub ReportsTask : Result Done Failure → Task → Type 0
ReportsTask result task =
    IsOkAnd result (λ done. (outcome : TaskOutcome) × (Fulfils task outcome × (outcome.done ≡ done)))

-- the answer is the task's, or want of memory
abbrev pub Completes : Result Task Failure → Result Done Failure → Type 0
Completes task result = IsErrOf result (plain_failure refusal.NoMemory)
    ⊎ MatchResult task (ReportsTask result) (IsErrOf result)

-- an answer whose refusal has this line
abbrev pub with_line : List ℕ → Result Done Refusal → Result Done Failure
with_line line (Ok done) = Ok done
with_line line (Err refusal) = Err (record { refusal = refusal; line = line })

-- A sink with these bytes and this count of faults gained a line, or a prefix of it if the count rose.
abbrev pub PutsLine : List ℕ → Option (List ℕ) → ℕ → Option (List ℕ) → ℕ → Type 0
PutsLine line old old_faults new new_faults = Gains old new line ⊎ (GainsPart old new line × Rose old_faults new_faults)

-- no line for a report, and this one for a refusal
abbrev pub PutsLineOf : List ℕ → Result Done Refusal → Option (List ℕ) → ℕ → Option (List ℕ) → ℕ → Type 0
PutsLineOf line (Ok done) old old_faults new new_faults = (new ≡ old) × (new_faults ≡ old_faults)
PutsLineOf line (Err refusal) old old_faults new new_faults = PutsLine line old old_faults new new_faults

-- the contents of `err`, if they are known, and its count of faults
pub record Errors : Type 0 where
  pub bytes : Option (List ℕ)
  pub faults : ℕ

-- errors from their parts
abbrev pub errors : Option (List ℕ) → ℕ → Errors
errors bytes faults = record { bytes = bytes; faults = faults }

-- the promises of the whole call: its answer, the shelf and the output, and the place for refusals
pub record Runs (words : List (List ℕ)) (old new : Scene) (before after : Errors) (result : Result Done Refusal) :
    Type 0 where
  -- the line of a refusal
  pub line : List ℕ
  -- the answer to the words' order with this line, its cause, the state after it, and the headline
  pub performs : Performs (order_of words) old new (with_line line result)
  -- if the contents of the shelf are known, or no file is used, and no read, no write and no put fails, the answer is
  -- the task's, or want of memory
  pub completes : (held : Files) → Serves (order_of words) old.held held → NoneFailed (order_of words) old new
      → Completes (task_of (order_of words) held) (with_line line result)
  -- `err` gets this line, and nothing with a report
  pub puts : PutsLineOf line result before.bytes before.faults after.bytes after.faults
