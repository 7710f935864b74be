-- The stocks of a case, and the first rule that rows of stocks break.
use Rattle.std.specs.Prelude.{◌≡◌, ◌==◌, ℕ, ◌+◌, ◌*◌, ◌/◌, ◌%◌, ◌<◌, ◌≤◌, nat_lt, List, [], ◌∷◌, map, take, length, get_or, Option, Some, None, Result, if◌then◌else◌, sum, replicate}
use Rattle.std.specs.List.{range_with_len}
use Rattle.spares_input.specs.First.{first, first_of, unless}
use Rattle.spares_input.specs.Limits.{most_sites}
use Rattle.spares_input.specs.Rows.{no_stock}
use Rattle.spares_input.specs.Frames.{FrameRows, part_at}
use Rattle.spares_input.specs.Pairs.{pair_place, part_of_place, site_of_place, has_row, rows_in_order}
use Rattle.spares_input.specs.Cases.{CaseRows, frame_rows, pair_count}
use Rattle.spares_input.specs.declared.rows.PartRow.{PartRow}
use Rattle.spares_input.specs.declared.rows.StockRow.{StockRow}
use Rattle.spares_input.specs.declared.fault.StockFault.{StockFault}
use Rattle.spares_input.specs.declared.fault.StockFault.TheVariants as fault

-- stocks as contracts see them: the number of sites, and a number for each pair, by part and then by site
pub record StockList : Type 0 where
  pub sites : ℕ
  pub list : List ℕ

-- the stock of part p at site k
abbrev pub stock_at : StockList → ℕ → ℕ → ℕ
stock_at s p k = get_or s.list (pair_place s.sites p k) 0

-- the largest stock of part p at site k; site 0 is the depot
abbrev pub limit_at : List PartRow → ℕ → ℕ → ℕ
limit_at parts p k = if k == 0 then (part_at parts p).max_depot else (part_at parts p).max_base

-- the place of the pair of a row of stocks, with n sites
abbrev pub stock_place : ℕ → StockRow → ℕ
stock_place n r = pair_place n r.part.0 r.site.0

-- the rule that row k of the stocks breaks; in its file this is row k + 2
abbrev pub stock_fault : CaseRows → List StockRow → ℕ → Option StockFault
stock_fault c rows k =
    let r = get_or rows k no_stock in
    if nat_lt (limit_at c.parts r.part.0 r.site.0) r.stock then Some (fault.OverLimit (k + 2))
    else if has_row (stock_place (length c.sites)) (take k rows) (stock_place (length c.sites) r)
    then Some (fault.Double (k + 2))
    else None

-- the pair at a place has no row
abbrev pub missing_stock : ℕ → List StockRow → ℕ → Option StockFault
missing_stock n rows i =
    if has_row (stock_place n) rows i then None
    else Some (fault.Missing (part_of_place n i) (site_of_place n i))

-- the first rule that the rows of stocks break
abbrev pub stocks_fault : CaseRows → List StockRow → Option StockFault
stocks_fault c rows = first_of (
    first (stock_fault c rows) (length rows)
    ∷ first (missing_stock (length c.sites) rows) (pair_count (frame_rows c))
    ∷ [])

-- the stock of each pair, by part and then by site
abbrev pub stocks_in_order : CaseRows → List StockRow → List ℕ
stocks_in_order c rows =
    map (λ r. r.stock) (rows_in_order (stock_place (length c.sites)) no_stock (pair_count (frame_rows c)) rows)

-- the stocks of the rows, or the first rule that they break
abbrev pub stocks_of : CaseRows → List StockRow → Result StockList StockFault
stocks_of c rows = unless (stocks_fault c rows) (record { sites = length c.sites; list = stocks_in_order c rows })

-- a row of stocks has a pair of the frame
pub record IsStockOf (f : FrameRows) (r : StockRow) : Type 0 where
  pub part : r.part.0 < length f.parts
  pub site : r.site.0 < length f.sites

-- the invariant of all stocks
pub record IsStockList (s : StockList) : Type 0 where
  pub fewest_sites : 2 ≤ s.sites
  pub most_sites : s.sites ≤ most_sites
  pub whole : length s.list % s.sites ≡ 0

-- a pair has a number in the list
pub record HasPair (s : StockList) (p k : ℕ) : Type 0 where
  pub site : k < s.sites
  pub within : pair_place s.sites p k < length s.list

-- the list has a number for each pair of the case
pub record IsFor (c : CaseRows) (s : StockList) : Type 0 where
  pub sites : s.sites ≡ length c.sites
  pub pairs : length s.list ≡ pair_count (frame_rows c)

-- no stock is over the limit of its part at its site
abbrev pub IsWithinLimits : CaseRows → StockList → Type 0
IsWithinLimits c s = (p k : ℕ) → p < length c.parts → k < length c.sites → stock_at s p k ≤ limit_at c.parts p k

-- stocks of a case: a number for each pair, none of them over its limit
pub record AreStocksOf (c : CaseRows) (s : StockList) : Type 0 where
  pub is_for : IsFor c s
  pub limits : IsWithinLimits c s

-- no stock of any part at any site
abbrev pub nothing_held : CaseRows → StockList
nothing_held c = record { sites = length c.sites; list = replicate (pair_count (frame_rows c)) 0 }

-- the sum over all pairs of stock times cost of the part
abbrev pub cost_of_stocks : CaseRows → StockList → ℕ
cost_of_stocks c s = sum (map (λ i. get_or s.list i 0 * (part_at c.parts (i / s.sites)).cost)
    (range_with_len 0 (length s.list)))
