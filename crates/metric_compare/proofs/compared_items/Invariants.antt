use Rattle.std.proofs.Common.{◌≡◌, map}
use Rattle.std.specs.List.{range_with_len}
use Rattle.metric_compare.specs.Report.{compared_at}
use Rattle.metric_compare.proofs.compared_items.Given as goal

abbrev pub invariant-loop-i : goal.invariant-loop-i
invariant-loop-i l = l.items.items ≡ map (compared_at l.fn.inputs.case l.fn.inputs.stocks.list) (range_with_len 0 l.i)
