use Rattle.std.proofs.Common.{◌≡◌, map}
use Rattle.std.specs.List.{range_with_len}
use Rattle.family_tables.specs.Kept.{shop_key}
use Rattle.family_tables.proofs.making.shop_keys.Given as goal

abbrev pub invariant-loop-k : goal.invariant-loop-k
invariant-loop-k l = l.keys.items ≡ map (shop_key l.fn.depot l.fn.shop) (range_with_len 0 l.k)
