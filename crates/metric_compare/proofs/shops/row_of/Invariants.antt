use Rattle.std.proofs.Common.{◌≡◌, map}
use Rattle.std.specs.List.{range_with_len}
use Rattle.metric_compare.specs.Profile.{poisson_of}
use Rattle.metric_compare.proofs.shops.row_of.Given as goal

abbrev pub invariant-loop-k : goal.invariant-loop-k
invariant-loop-k l = l.row.items ≡ map (poisson_of 48 l.fn.inputs.case l.fn.inputs.stocks.list l.fn.unit.0) (range_with_len 0 l.k)
