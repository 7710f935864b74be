-- The refusal of one step to a ground, as the answer of a call that takes several.
use Rattle.std.proofs.Common.{◌≡◌, ap, refl, Some, Result, Ok, Err, ℕ}
use Rattle.std.specs.Result.{result_and}
use Rattle.answers.specs.Answers.{Gives}
use Rattle.answers.specs.Steps.{◌>>=◌}
use Rattle.answers.specs.declared.stop.Stop.{Stop}
use Rattle.answers.specs.declared.stop.Stop.TheVariants as stop
use Rattle.case_tables.specs.Answers.{TellsStocked}
use Rattle.case_tables.specs.Tables.{StockedCase}
use Rattle.held_work.specs.Work.{held_work_of}
use Rattle.refusals.specs.Causes.{or_refuse}
use Rattle.refusals.specs.Lines.{no_names}
use Rattle.refusals.specs.declared.failure.Failure.{Failure}
use Rattle.refusals.specs.declared.refusal.Refusal.TheVariants as refusal
use Rattle.spares_input.specs.Stocks.{StockList}
use Rattle.plan_commands.specs.Planning.{TellsGround}
use Rattle.command_outcomes.specs.Plans.{Planning}
use Rattle.plan_commands.specs.declared.planning.Ground.{Ground}

-- ---- cases

-- tables that give no case with stocks
pub unstocked : (given : Result StockedCase Failure) (next : StockedCase → Result Planning Failure) (e : Stop Failure) → TellsStocked given (Err e)
    → TellsGround (given >>= next) (Err e)
unstocked given next stop.NoMemory h = tt
unstocked given next (stop.Fault failure) h = ap (λ (r : Result StockedCase Failure). r >>= next) h

-- ---- work

-- the ground of a case with stocks on hand, if its work isn't refused
pub ground_if_few : (g : Ground) (stocks : StockList) (given : Result StockedCase Failure) → given ≡ Ok (record { case = g.given.case; stocks = stocks })
    → g.on_hand ≡ Some stocks → (few : Result ℕ (Stop Failure)) → Gives (or_refuse no_names refusal.Work (held_work_of g.given.case stocks.list)) few
    → TellsGround (given >>= λ x. (or_refuse no_names refusal.Work (held_work_of x.case x.stocks.list) >>= λ count. Ok (record { case = x.case; on_hand = Some x.stocks; terms = g.terms })))
    (result_and few (Ok g))
ground_if_few g stocks given is_given held (Ok n) h = rw (is_given, h, held) refl
ground_if_few g stocks given is_given held (Err stop.NoMemory) h = tt
ground_if_few g stocks given is_given held (Err (stop.Fault failure)) h = rw (is_given, h) refl
