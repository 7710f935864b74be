-- Refusals with their lines, and their kinds.
use Rattle.std.specs.Prelude.{Result, Ok, Err}
use Rattle.spares_input.specs.Frames.{FrameRows}
use Rattle.answers.specs.declared.stop.Stop.{Stop}
use Rattle.answers.specs.declared.stop.Stop.TheVariants as stop
use Rattle.spares_words.specs.declared.order.WordsFault.{WordsFault}
use Rattle.refusals.specs.declared.failure.Failure.{Failure}
use Rattle.refusals.specs.declared.refusal.File.{File}
use Rattle.refusals.specs.declared.refusal.Refusal.{Refusal}
use Rattle.refusals.specs.declared.refusal.Refusal.TheVariants as refusal
use Rattle.refusals.specs.Lines.{line_of_refusal, no_names}

-- The cause of a refusal: the words, the reading of a file, the writing of an answer, memory, or the task itself.
pub data Kind : Type 0 where
  of_words : WordsFault → Kind
  of_reading : File → Kind
  of_writing : Kind
  of_memory : Kind
  of_task : Kind

-- the cause of a refusal
abbrev pub kind_of : Refusal → Kind
kind_of (refusal.Words fault) = of_words fault
kind_of (refusal.ReadFault file) = of_reading file
kind_of (refusal.TooLong file) = of_reading file
kind_of (refusal.Table file fault) = of_task
kind_of (refusal.Case fault) = of_task
kind_of (refusal.Stock fault) = of_task
kind_of (refusal.Rate fault) = of_task
kind_of (refusal.Work count) = of_task
kind_of (refusal.Cert fault) = of_task
kind_of (refusal.Rejected reject) = of_task
kind_of (refusal.Edit fault) = of_task
kind_of refusal.WriteFault = of_writing
kind_of refusal.NoMemory = of_memory

-- a refusal with its line, with the names of this frame
abbrev pub failure_of : FrameRows → Refusal → Failure
failure_of names refusal = record { refusal = refusal; line = line_of_refusal names refusal }

-- a refusal that names no pair of a case
abbrev pub plain_failure : Refusal → Failure
plain_failure refusal = failure_of no_names refusal

-- the reason of a stop, as a refusal: want of memory is one too
abbrev pub stopped : Stop Failure → Failure
stopped stop.NoMemory = plain_failure refusal.NoMemory
stopped (stop.Fault failure) = failure

-- the value, or its fault as a refusal of this kind
abbrev pub or_refuse : {A E : Type 0} → FrameRows → (E → Refusal) → Result A E → Result A Failure
or_refuse names kind (Ok value) = Ok value
or_refuse names kind (Err fault) = Err (failure_of names (kind fault))
