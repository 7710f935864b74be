use Rattle.std.proofs.Common.{◌≡◌, map}
use Rattle.std.specs.List.{range_with_len}
use Rattle.metric_compare.specs.Profile.{poisson_of}
use Rattle.metric_compare.proofs.lines.row_with.Given as goal

abbrev pub invariant-loop-j : goal.invariant-loop-j
invariant-loop-j l = l.row.items ≡ map (poisson_of 48 l.fn.inputs.case l.fn.inputs.stocks.list l.fn.line.0) (range_with_len 0 l.j)
