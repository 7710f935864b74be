-- What refuses a case is of the task's kind.
use Rattle.std.proofs.Common.{refl, ℕ, List}
use Rattle.case_tables.specs.Tables.{accepted_of, case_of_tables}
use Rattle.case_tables.proofs.Public.{Refuses, accepted_refuses, or_refuses, stocked_refuses, tables_refuse, then_refuses}
use Rattle.family_points.specs.Counts.{work_of}
use Rattle.refusals.specs.Causes.{or_refuse}
use Rattle.refusals.specs.Lines.{no_names}
use Rattle.refusals.specs.declared.refusal.File.{File}
use Rattle.refusals.specs.declared.refusal.Refusal.TheVariants as refusal
use Rattle.order_inputs.specs.Cases.{case_to_edit, case_within_work, stocked_by}
use Rattle.order_inputs.specs.Files.{CaseBytes}

-- the case of a plan, by its tables or its work
pub within_work_refuses : (tables : CaseBytes) → Refuses (case_within_work tables)
within_work_refuses t =
    then_refuses (accepted_of t.sites t.parts t.rates) _ (accepted_refuses t.sites t.parts t.rates) (λ case.
    then_refuses (or_refuse no_names refusal.Work (work_of case)) _ (or_refuses no_names refusal.Work (work_of case) (λ count. refl)) (λ work. tt))

-- a case to edit, by its tables or its work
pub to_edit_refuses : (tables : CaseBytes) → Refuses (case_to_edit tables)
to_edit_refuses t =
    then_refuses (case_of_tables t.sites t.parts t.rates) _ (tables_refuse t.sites t.parts t.rates) (λ case.
    then_refuses (or_refuse no_names refusal.Work (work_of case)) _ (or_refuses no_names refusal.Work (work_of case) (λ count. refl)) (λ work. tt))

-- a case with stocks, by its tables
pub at_stocks_refuses : (file : File) (tables : CaseBytes) (stocks : List ℕ) → Refuses (stocked_by file tables stocks)
at_stocks_refuses file t stocks = stocked_refuses file t.sites t.parts t.rates stocks
