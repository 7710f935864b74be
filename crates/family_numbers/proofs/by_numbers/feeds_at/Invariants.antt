use Rattle.std.proofs.Common.{◌≡◌, ◌+◌, map}
use Rattle.std.specs.List.{range_with_len}
use Rattle.family_numbers.specs.Numbers.{nth_stock, depot_shop_row, feed_from, pair_at}
use Rattle.family_numbers.proofs.by_numbers.feeds_at.Given as goal

abbrev pub invariant-loop-i : goal.invariant-loop-i
invariant-loop-i g l =
    l.feeds.items ≡ map (λ i. feed_from g.row.F (pair_at l.fn.numbers (i + 1) 0).share (depot_shop_row g.row.F l.fn.numbers i (nth_stock l.fn.depot i))) (range_with_len 0 l.i)
