use Rattle.std.proofs.Common.{map}
use Rattle.spares_input.specs.Building.{AreFamiliesBelow, ids}
use Rattle.spares_input.proofs.families.families_of.Given as goal

abbrev pub invariant-loop-p : goal.invariant-loop-p
invariant-loop-p l = AreFamiliesBelow l.fn.parts l.p (map (λ v. ids v.items) l.families.items)
