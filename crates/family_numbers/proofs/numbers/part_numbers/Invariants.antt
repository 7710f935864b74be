use Rattle.std.proofs.Common.{◌≡◌, map}
use Rattle.std.specs.List.{range_with_len}
use Rattle.family_numbers.specs.Numbers.{pair_numbers}
use Rattle.family_numbers.proofs.numbers.part_numbers.Given as goal

abbrev pub invariant-loop-k : goal.invariant-loop-k
invariant-loop-k g l = l.numbers.items ≡ map (pair_numbers g.row.F l.fn.rated.case l.fn.part.0) (range_with_len 0 l.k)
