use Rattle.std.specs.Bool.{⊤}
use Rattle.base_parts.proofs.choices.lies_below.Given as goal

abbrev pub invariant-loop-k : goal.invariant-loop-k
invariant-loop-k l = ⊤
