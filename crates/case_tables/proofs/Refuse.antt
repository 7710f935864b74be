-- The refusals of tables are of the task.
use Rattle.std.proofs.Common.{◌≡◌, refl, subst, Result, Ok, Err, MatchResult, ℕ, List}
use Rattle.std.specs.Prelude.{⊤}
use Rattle.csv_tables.specs.Parts.{parts_of}
use Rattle.csv_tables.specs.Rates.{rates_of}
use Rattle.csv_tables.specs.Sites.{sites_of}
use Rattle.csv_tables.specs.Stocks as stocks_table
use Rattle.demand_rates.specs.Rates as model
use Rattle.spares_input.specs.Cases.{CaseRows, case_of, frame_rows}
use Rattle.spares_input.specs.Frames.{FrameRows, frame_of}
use Rattle.spares_input.specs.Stocks.{stocks_of}
use Rattle.refusals.specs.declared.failure.Failure.{Failure}
use Rattle.refusals.specs.declared.refusal.File.{File}
use Rattle.refusals.specs.declared.refusal.File.TheVariants.{Sites, Parts, Rates}
use Rattle.refusals.specs.declared.refusal.Refusal.{Refusal}
use Rattle.refusals.specs.declared.refusal.Refusal.TheVariants as refusal
use Rattle.answers.specs.Steps.{◌>>=◌}
use Rattle.refusals.specs.Causes.{of_task, kind_of, or_refuse}
use Rattle.refusals.specs.Lines.{no_names}
use Rattle.case_tables.specs.Tables.{accepted_of, case_of_table, case_of_tables, frame_of_tables, rates_of_case, stocked_of, stocks_of_table}

-- where this is refused, the refusal is of the task
abbrev pub Refuses : {A : Type 0} → Result A Failure → Type 0
Refuses r = MatchResult r (λ value. ⊤) (λ failure. kind_of failure.refusal ≡ of_task)

-- of two steps one after the other the first refusal is of the task where each step's is
pub then_refuses : {A B : Type 0} (r : Result A Failure) (next : A → Result B Failure) → Refuses r → ((a : A) → Refuses (next a)) → Refuses (r >>= next)
then_refuses (Ok a) next h f = f a
then_refuses (Err failure) next h f = h

-- a fault told as a refusal of the task is one
pub or_refuses : {A E : Type 0} (names : FrameRows) (kind : E → Refusal) (r : Result A E) → ((fault : E) → kind_of (kind fault) ≡ of_task) → Refuses (or_refuse names kind r)
or_refuses names kind (Ok a) h = tt
or_refuses names kind (Err fault) h = h fault

-- the kind of such a refusal
pub is_of_task : {A : Type 0} (r : Result A Failure) (failure : Failure) → Refuses r → r ≡ Err failure → kind_of failure.refusal ≡ of_task
is_of_task {A} r failure h e = subst (λ (x : Result A Failure). Refuses x) e h

frame_refuses : (sites parts : List ℕ) → Refuses (frame_of_tables sites parts)
unfolding frame_of_tables
frame_refuses sites parts =
    then_refuses (or_refuse no_names (refusal.Table Sites) (sites_of sites)) _ (or_refuses no_names (refusal.Table Sites) (sites_of sites) (λ fault. refl)) (λ s.
    then_refuses (or_refuse no_names (refusal.Table Parts) (parts_of parts)) _ (or_refuses no_names (refusal.Table Parts) (parts_of parts) (λ fault. refl)) (λ p.
    or_refuses no_names refusal.Case (frame_of s p) (λ fault. refl)))

case_refuses : (frame : FrameRows) (rates : List ℕ) → Refuses (case_of_table frame rates)
unfolding case_of_table
case_refuses frame rates =
    then_refuses (or_refuse frame (refusal.Table Rates) (rates_of frame rates)) _ (or_refuses frame (refusal.Table Rates) (rates_of frame rates) (λ fault. refl)) (λ r.
    or_refuses frame refusal.Case (case_of frame r) (λ fault. refl))

-- the case of tables, where it isn't given, is refused for what stands in them
pub tables_refuse : (sites parts rates : List ℕ) → Refuses (case_of_tables sites parts rates)
tables_refuse sites parts rates = then_refuses (frame_of_tables sites parts) _ (frame_refuses sites parts) (λ frame. case_refuses frame rates)

stocks_refuse : (file : File) (case : CaseRows) (stocks : List ℕ) → Refuses (stocks_of_table file case stocks)
unfolding stocks_of_table
stocks_refuse file case stocks =
    then_refuses (or_refuse (frame_rows case) (refusal.Table file) (stocks_table.stocks_of (frame_rows case) stocks)) _ (or_refuses (frame_rows case) (refusal.Table file) (stocks_table.stocks_of (frame_rows case) stocks) (λ fault. refl)) (λ s.
    or_refuses (frame_rows case) refusal.Stock (stocks_of case s) (λ fault. refl))

rates_refuse : (case : CaseRows) → Refuses (rates_of_case case)
unfolding rates_of_case
rates_refuse case = or_refuses (frame_rows case) refusal.Rate (model.rates_of case) (λ fault. refl)

-- the refusals of three tables are of the task
pub accepted_refuses : (sites parts rates : List ℕ) → Refuses (accepted_of sites parts rates)
unfolding accepted_of
accepted_refuses sites parts rates =
    then_refuses (case_of_tables sites parts rates) _ (tables_refuse sites parts rates) (λ case.
    then_refuses (rates_of_case case) _ (rates_refuse case) (λ given. tt))

-- the refusals of three tables and stocks are of the task
pub stocked_refuses : (file : File) (sites parts rates stocks : List ℕ) → Refuses (stocked_of file sites parts rates stocks)
unfolding stocked_of
stocked_refuses file sites parts rates stocks =
    then_refuses (case_of_tables sites parts rates) _ (tables_refuse sites parts rates) (λ case.
    then_refuses (stocks_of_table file case stocks) _ (stocks_refuse file case stocks) (λ list.
    then_refuses (rates_of_case case) _ (rates_refuse case) (λ given. tt)))
