use Rattle.std.proofs.Common.{◌≡◌, map}
use Rattle.std.specs.List.{range_with_len}
use Rattle.family_items.specs.Profile.{item_of}
use Rattle.family_eval.proofs.lines.line_items.Given as goal

abbrev pub invariant-loop-j : goal.invariant-loop-j
invariant-loop-j g l = l.row.items ≡ map (item_of g.row.F l.fn.inputs.case l.fn.inputs.stocks.list l.fn.line.0) (range_with_len 0 l.j)
