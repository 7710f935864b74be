use Rattle.std.proofs.Common.{◌≡◌, take}
use Rattle.spares_input.specs.Frames.{part_names}
use Rattle.case_figures.proofs.items.part_names.Given as goal

abbrev pub invariant-loop-p : goal.invariant-loop-p
invariant-loop-p l = l.names.items ≡ part_names (take l.p l.case.parts)
