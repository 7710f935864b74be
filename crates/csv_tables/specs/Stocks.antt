-- The rows of the table of stocks.
use Rattle.std.specs.Prelude.{ℕ, List, [], ◌∷◌, Result, Ok, codes}
use Rattle.spares_input.specs.Limits.{most_stock, most_pairs}
use Rattle.spares_input.specs.Frames.{FrameRows}
use Rattle.spares_input.specs.declared.rows.StockRow.{StockRow}
use Rattle.csv_tables.specs.Rest.{Record, all_records}
use Rattle.answers.specs.Steps.{◌>>=◌}
use Rattle.csv_tables.specs.Fields.{field, number_in}
use Rattle.csv_tables.specs.Rates.{part_in, site_in}
use Rattle.csv_tables.specs.Tables.{table_of}
use Rattle.csv_tables.specs.declared.fault.TableFault.{TableFault}

-- the stock of a record
unfoldable pub stock_of : FrameRows → ℕ → Record → Result StockRow TableFault
stock_of f row r = do
  part ← part_in f row 1 (field r 0)
  site ← site_in f row 2 (field r 1)
  stock ← number_in row 3 0 0 most_stock (field r 2)
  Ok (record { part = record { 0 = part }; site = record { 0 = site }; stock = stock })

-- the columns of the table of stocks
abbrev pub stocks_header : List (List ℕ)
stocks_header = codes "part" ∷ codes "site" ∷ codes "stock" ∷ []

-- the rows of a table of stocks, or its first fault
abbrev pub stocks_of : FrameRows → List ℕ → Result (List StockRow) TableFault
stocks_of f bytes = table_of (stock_of f) most_pairs 3 stocks_header (all_records bytes)
