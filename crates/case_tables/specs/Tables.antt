-- The reading of tables: their bytes become a case and its stocks, or the first refusal, with its line.
use Rattle.std.specs.Prelude.{ℕ, List, Result, Ok}
use Rattle.csv_tables.specs.Parts.{parts_of}
use Rattle.csv_tables.specs.Rates.{rates_of}
use Rattle.csv_tables.specs.Sites.{sites_of}
use Rattle.csv_tables.specs.Stocks as stocks_table
use Rattle.demand_rates.specs.RateLists.{RateList}
use Rattle.demand_rates.specs.Rates as model
use Rattle.spares_input.specs.Cases.{CaseRows, case_of, frame_rows}
use Rattle.spares_input.specs.Frames.{FrameRows, frame_of}
use Rattle.spares_input.specs.Stocks.{StockList, stocks_of}
use Rattle.spares_input.specs.declared.rows.RateRow.{RateRow}
use Rattle.refusals.specs.declared.failure.Failure.{Failure}
use Rattle.refusals.specs.declared.refusal.File.{File}
use Rattle.refusals.specs.declared.refusal.File.TheVariants.{Sites, Parts, Rates}
use Rattle.refusals.specs.declared.refusal.Refusal.TheVariants as refusal
use Rattle.answers.specs.Steps.{◌>>=◌}
use Rattle.refusals.specs.Causes.{or_refuse}
use Rattle.refusals.specs.Lines.{no_names}

-- the frame of two tables, or a refusal without names
unfoldable pub frame_of_tables : List ℕ → List ℕ → Result FrameRows Failure
frame_of_tables sites_bytes parts_bytes = do
  sites ← or_refuse no_names (refusal.Table Sites) (sites_of sites_bytes)
  parts ← or_refuse no_names (refusal.Table Parts) (parts_of parts_bytes)
  or_refuse no_names refusal.Case (frame_of sites parts)

-- the rows of the third table
abbrev pub rate_rows_of : FrameRows → List ℕ → Result (List RateRow) Failure
rate_rows_of frame rates_bytes = or_refuse frame (refusal.Table Rates) (rates_of frame rates_bytes)

-- the case of a frame and the third table
unfoldable pub case_of_table : FrameRows → List ℕ → Result CaseRows Failure
case_of_table frame rates_bytes = do
  rates ← or_refuse frame (refusal.Table Rates) (rates_of frame rates_bytes)
  or_refuse frame refusal.Case (case_of frame rates)

-- the case of three tables
abbrev pub case_of_tables : List ℕ → List ℕ → List ℕ → Result CaseRows Failure
case_of_tables sites_bytes parts_bytes rates_bytes = do
  frame ← frame_of_tables sites_bytes parts_bytes
  case_of_table frame rates_bytes

-- the stocks of a case from one more table, which is this file
unfoldable pub stocks_of_table : File → CaseRows → List ℕ → Result StockList Failure
stocks_of_table file case stocks_bytes = do
  rows ← or_refuse (frame_rows case) (refusal.Table file) (stocks_table.stocks_of (frame_rows case) stocks_bytes)
  or_refuse (frame_rows case) refusal.Stock (stocks_of case rows)

-- the rates of a case, if all are within the limits of the model
unfoldable pub rates_of_case : CaseRows → Result RateList Failure
rates_of_case case = or_refuse (frame_rows case) refusal.Rate (model.rates_of case)

-- the case of three tables, if all its pipelines are within the limits of the model
unfoldable pub accepted_of : List ℕ → List ℕ → List ℕ → Result CaseRows Failure
accepted_of sites_bytes parts_bytes rates_bytes = do
  case ← case_of_tables sites_bytes parts_bytes rates_bytes
  rates ← rates_of_case case
  Ok case

-- a case with stocks
pub record StockedCase : Type 0 where
  pub case : CaseRows
  pub stocks : StockList

-- the case and the stocks of four tables, of which the fourth is this file, if all pipelines are within the limits of
-- the model
unfoldable pub stocked_of : File → List ℕ → List ℕ → List ℕ → List ℕ → Result StockedCase Failure
stocked_of file sites_bytes parts_bytes rates_bytes stocks_bytes = do
  case ← case_of_tables sites_bytes parts_bytes rates_bytes
  stocks ← stocks_of_table file case stocks_bytes
  rates ← rates_of_case case
  Ok (record { case = case; stocks = stocks })
