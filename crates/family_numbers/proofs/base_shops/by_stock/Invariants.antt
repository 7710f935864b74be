use Rattle.std.proofs.Common.{◌≡◌, ◌-◌, map}
use Rattle.std.specs.List.{range_with_len}
use Rattle.family_numbers.specs.Numbers.{base_shop_table}
use Rattle.family_numbers.proofs.base_shops.by_stock.Given as goal

abbrev pub invariant-loop-s : goal.invariant-loop-s
invariant-loop-s g l = l.made.items ≡ map (λ s. base_shop_table g.row.F l.numbers l.shop l.site.0 s) (range_with_len l.low (l.s - l.low))
