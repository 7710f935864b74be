-- The answers of the calls: a value, the refusal of its definition, or want of memory.
use Rattle.std.specs.Prelude.{◌≡◌, ⊤, Result, Ok, Err}
use Rattle.spares_input.specs.Cases.{CaseRows}
use Rattle.spares_input.specs.Frames.{FrameRows}
use Rattle.spares_input.specs.declared.fault.CaseFault.{CaseFault}
use Rattle.answers.specs.declared.stop.Stop.{Stop}
use Rattle.answers.specs.declared.stop.Stop.TheVariants as stop
use Rattle.refusals.specs.declared.failure.Failure.{Failure}
use Rattle.refusals.specs.declared.refusal.Refusal.TheVariants as refusal
use Rattle.refusals.specs.Causes.{failure_of}
use Rattle.case_tables.specs.declared.AcceptedCase.{AcceptedCase}
use Rattle.case_tables.specs.declared.Stocked.{Stocked}
use Rattle.case_tables.specs.Tables.{StockedCase}

-- a case with rates, by its definition
abbrev pub Tells : Result CaseRows Failure → Result AcceptedCase (Stop Failure) → Type 0
Tells given (Ok accepted) = given ≡ Ok accepted.case
Tells given (Err stop.NoMemory) = ⊤
Tells given (Err (stop.Fault failure)) = given ≡ Err failure

-- a case with stocks, by its definition
abbrev pub TellsStocked : Result StockedCase Failure → Result Stocked (Stop Failure) → Type 0
TellsStocked given (Ok stocked) = given ≡ Ok (record { case = stocked.case; stocks = stocked.stocks })
TellsStocked given (Err stop.NoMemory) = ⊤
TellsStocked given (Err (stop.Fault failure)) = given ≡ Err failure

-- the stop of a case, its fault told with these names
abbrev pub case_stop : FrameRows → Stop CaseFault → Stop Failure
case_stop names stop.NoMemory = stop.NoMemory
case_stop names (stop.Fault fault) = stop.Fault (failure_of names (refusal.Case fault))
