-- What is known of tables and of the cases that are made of them.
use Rattle.std.specs.Prelude.{◌≤◌, All, ℕ, List, length}
use Rattle.std.specs.Result.{IsOk}
use Rattle.case_tables.specs.declared.AcceptedCase.{AcceptedCase}
use Rattle.case_tables.specs.declared.Stocked.{Stocked}
use Rattle.csv_tables.specs.Rest.{table_limit}
use Rattle.demand_rates.specs.Rates.{AreRatesOf}
use Rattle.family_points.specs.Counts.{work_of}
use Rattle.fleet_plan.specs.Laws.{IsAcceptedCase}
use Rattle.spares_input.specs.Stocks.{AreStocksOf}
use Rattle.order_inputs.specs.Files.{CaseBytes}
use Rattle.order_inputs.specs.declared.tables.Tables.{Tables}

-- the bytes of the tables of a case
abbrev pub bytes_of : Tables → CaseBytes
bytes_of t = record { sites = t.sites.bytes.now; parts = t.parts.bytes.now; rates = t.rates.bytes.now }

-- the rates are the case's, and the stocks are within its limits
pub record IsStocked (x : Stocked) : Type 0 where
  pub rates : AreRatesOf x.case x.rates
  pub stocks : AreStocksOf x.case x.stocks

-- the rates are the case's, the case is accepted, and its curves take few enough tables
pub record CanPlan (x : AcceptedCase) : Type 0 where
  pub rates : AreRatesOf x.case x.rates
  pub accepted : IsAcceptedCase x.case
  pub work : IsOk (work_of x.case)

-- at least `count` tables, none of them too long
pub record AreTables (count : ℕ) (files : List (List ℕ)) : Type 0 where
  pub enough : count ≤ length files
  pub within : All (λ bytes. length bytes ≤ table_limit) files
