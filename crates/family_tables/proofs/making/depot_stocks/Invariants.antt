use Rattle.std.proofs.Common.{◌≡◌, ◌+◌, get_or, map}
use Rattle.std.specs.List.{range_with_len}
use Rattle.spares_input.specs.Stocks.{stock_at}
use Rattle.family_tables.proofs.making.depot_stocks.Given as goal

abbrev pub invariant-loop-i : goal.invariant-loop-i
invariant-loop-i g l = l.depot.items ≡ map (λ i. stock_at l.fn.stocks (get_or l.fn.numbers.parts (i + 1) 0) 0) (range_with_len 0 l.i)
