use Rattle.std.proofs.Common.{◌≡◌, map, flat_map}
use Rattle.std.specs.List.{range_with_len}
use Rattle.family_tables.specs.Kept.{shop_key}
use Rattle.family_tables.proofs.making.keys_of.Given as goal

abbrev pub invariant-loop-i : goal.invariant-loop-i
invariant-loop-i g l = l.keys.items ≡ flat_map (λ i. map (shop_key l.fn.depot i) (range_with_len 0 l.fn.numbers.sites)) (range_with_len 0 l.i)
