use Rattle.std.proofs.Common.{◌≡◌, map}
use Rattle.std.specs.List.{range_with_len}
use Rattle.family_numbers.specs.Numbers.{depot_shop_table}
use Rattle.family_numbers.proofs.by_numbers.depot_shop_tables.Given as goal

abbrev pub invariant-loop-i : goal.invariant-loop-i
invariant-loop-i g l = l.tables.items ≡ map (λ i. depot_shop_table g.row.F l.fn.numbers i) (range_with_len 0 l.i)
