use Rattle.std.proofs.Common.{◌≡◌}
use Rattle.hull.specs.Curves.{lagrangian}
use Rattle.case_plan.specs.Parts.{parts}
use Rattle.case_plan.proofs.numbers.floors_at.Given as goal

abbrev pub invariant-loop-f : goal.invariant-loop-f
invariant-loop-f l = l.floors.items ≡ parts (lagrangian l.price.p l.price.q) l.curves l.picks l.f
