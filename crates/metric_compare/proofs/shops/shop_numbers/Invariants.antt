use Rattle.std.proofs.Common.{◌≡◌, flat_map}
use Rattle.std.specs.List.{range_with_len}
use Rattle.metric_compare.specs.Levels.{by_site, of_shop}
use Rattle.metric_compare.proofs.shops.shop_numbers.Given as goal

abbrev pub invariant-loop-p : goal.invariant-loop-p
invariant-loop-p l = l.all.items ≡ flat_map (λ q. by_site l.fn.inputs.case (of_shop l.fn.inputs.case l.fn.inputs.stocks.list q)) (range_with_len 0 l.p)
