use Rattle.std.proofs.Common.{◌<◌, length}
use Rattle.base_parts.proofs.choices.likely_place.Given as goal

abbrev pub invariant-loop-n : goal.invariant-loop-n
invariant-loop-n l = l.place < length l.here.base.now.order.items
