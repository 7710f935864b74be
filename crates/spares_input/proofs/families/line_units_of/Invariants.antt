use Rattle.std.proofs.Common.{◌≡◌}
use Rattle.spares_input.specs.Frames.{lines_below}
use Rattle.spares_input.specs.Building.{ids}
use Rattle.spares_input.proofs.families.line_units_of.Given as goal

abbrev pub invariant-loop-p : goal.invariant-loop-p
invariant-loop-p l = ids l.lines.items ≡ lines_below l.fn.parts l.p
