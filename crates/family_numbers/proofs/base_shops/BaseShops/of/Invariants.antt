use Rattle.std.proofs.Common.{◌≡◌, ◌-◌, map}
use Rattle.std.specs.List.{range_with_len}
use Rattle.family_numbers.specs.BaseTables.{tables_by_shop}
use Rattle.family_numbers.proofs.base_shops.BaseShops.of.Given as goal

abbrev pub invariant-loop-j : goal.invariant-loop-j
invariant-loop-j g l = l.tables.items ≡ map (tables_by_shop g.row.F l.fn.numbers l.fn.low l.fn.high) (range_with_len 1 (l.j - 1))
