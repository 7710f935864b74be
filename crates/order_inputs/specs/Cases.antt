-- The cases of tables: with stocks, for a plan, and for edits.
use Rattle.std.specs.Prelude.{ℕ, List, Result, Ok}
use Rattle.case_tables.specs.Tables.{StockedCase, accepted_of, case_of_tables, stocked_of}
use Rattle.family_points.specs.Counts.{work_of}
use Rattle.refusals.specs.Causes.{or_refuse}
use Rattle.refusals.specs.Lines.{no_names}
use Rattle.refusals.specs.declared.failure.Failure.{Failure}
use Rattle.refusals.specs.declared.refusal.File.{File}
use Rattle.refusals.specs.declared.refusal.Refusal.TheVariants as refusal
use Rattle.spares_input.specs.Cases.{CaseRows}
use Rattle.answers.specs.Steps.{◌>>=◌}
use Rattle.order_inputs.specs.Files.{CaseBytes}

-- the case of tables with accepted rates, refused if its curves take too many tables
abbrev pub case_within_work : CaseBytes → Result CaseRows Failure
case_within_work tables = do
  case ← accepted_of tables.sites tables.parts tables.rates
  work ← or_refuse no_names refusal.Work (work_of case)
  Ok case

-- the case of tables, refused if its curves take too many tables; its rates may be beyond the limits of the model
abbrev pub case_to_edit : CaseBytes → Result CaseRows Failure
case_to_edit tables = do
  case ← case_of_tables tables.sites tables.parts tables.rates
  work ← or_refuse no_names refusal.Work (work_of case)
  Ok case

-- the case of tables and the stocks of a further table, which is this file
abbrev pub stocked_by : File → CaseBytes → List ℕ → Result StockedCase Failure
stocked_by file tables stocks = stocked_of file tables.sites tables.parts tables.rates stocks
