use Rattle.std.proofs.Common.{◌≡◌, map}
use Rattle.std.specs.List.{range_with_len}
use Rattle.family_numbers.specs.BaseTables.{tables_by_stock}
use Rattle.family_numbers.specs.Numbers.{nth_stock}
use Rattle.family_numbers.proofs.base_shops.by_shop.Given as goal

abbrev pub invariant-loop-i : goal.invariant-loop-i
invariant-loop-i g l =
    l.made.items ≡ map (λ i. tables_by_stock g.row.F l.fn.numbers l.fn.site.0 i (nth_stock l.fn.low i) (nth_stock l.fn.high i)) (range_with_len 0 l.i)
