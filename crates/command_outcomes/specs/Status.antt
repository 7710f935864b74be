-- The exit status of an answer.
use Rattle.std.specs.Prelude.{ℕ, Result, Ok, Err}
use Rattle.refusals.specs.declared.refusal.Refusal.{Refusal}
use Rattle.refusals.specs.declared.refusal.Refusal.TheVariants as refusal
use Rattle.command_outcomes.specs.declared.done.Done.{Done}

-- the exit status: 0 for a report, 2 for refused words, 3 for refused tables or edits, 4 for certificates, 5 and 6 for
-- faults of reading and writing, 7 for want of memory, and 8 for a file that is too long
abbrev pub status_of : Result Done Refusal → ℕ
status_of (Ok done) = 0
status_of (Err (refusal.Words fault)) = 2
status_of (Err (refusal.ReadFault file)) = 5
status_of (Err (refusal.TooLong file)) = 8
status_of (Err (refusal.Table file fault)) = 3
status_of (Err (refusal.Case fault)) = 3
status_of (Err (refusal.Stock fault)) = 3
status_of (Err (refusal.Rate fault)) = 3
status_of (Err (refusal.Work count)) = 3
status_of (Err (refusal.Edit fault)) = 3
status_of (Err (refusal.Cert fault)) = 4
status_of (Err (refusal.Rejected reject)) = 4
status_of (Err refusal.WriteFault) = 6
status_of (Err refusal.NoMemory) = 7
