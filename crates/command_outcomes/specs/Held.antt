-- The stocks held at the start of a plan.
use Rattle.std.specs.Prelude.{Option, Some, None}
use Rattle.spares_input.specs.Cases.{CaseRows}
use Rattle.spares_input.specs.Stocks.{StockList, nothing_held}

-- the stocks on hand, or zeros if there are none
abbrev pub held_in : CaseRows → Option StockList → StockList
held_in c None = nothing_held c
held_in c (Some held) = held
