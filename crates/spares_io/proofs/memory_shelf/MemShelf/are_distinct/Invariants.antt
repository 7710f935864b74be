use Rattle.std.proofs.Common.{◌≡◌, drop}
use Rattle.spares_io.specs.Memory.{are_distinct}
use Rattle.spares_io.proofs.memory_shelf.MemShelf.are_distinct.Given as goal

abbrev pub invariant-loop-index : goal.invariant-loop-index
invariant-loop-index l = are_distinct l.files ≡ are_distinct (drop l.index l.files)
