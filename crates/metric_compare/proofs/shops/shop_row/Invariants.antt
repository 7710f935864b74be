use Rattle.std.proofs.Common.{◌≡◌, map}
use Rattle.std.specs.List.{range_with_len}
use Rattle.metric_compare.specs.Levels.{of_shop}
use Rattle.metric_compare.proofs.shops.shop_row.Given as goal

abbrev pub invariant-loop-j : goal.invariant-loop-j
invariant-loop-j l = l.row.items ≡ map (of_shop l.fn.inputs.case l.fn.inputs.stocks.list l.fn.part.0) (range_with_len 0 l.j)
