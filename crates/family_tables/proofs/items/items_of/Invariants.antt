use Rattle.std.proofs.Common.{◌≡◌, map, take}
use Rattle.family_tables.specs.Kept.{key_item}
use Rattle.family_tables.proofs.items.items_of.Given as goal

abbrev pub invariant-loop-key : goal.invariant-loop-key
invariant-loop-key g l = l.items.items ≡ map (key_item g.row.F l.fn.numbers l.fn.stocks) (take l.key-index l.fn.keys)
