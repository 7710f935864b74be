use Rattle.std.proofs.Common.{◌≡◌, map, take}
use Rattle.spares_input.specs.declared.rows.PartId.{PartId}
use Rattle.held_plan.specs.Held.{HeldCase, held_box}
use Rattle.held_plan.proofs.sample.families_of.Given as goal

abbrev pub invariant-loop-k : goal.invariant-loop-k
invariant-loop-k l =
    let x : HeldCase = record { case = l.case; rates = l.rates; held = l.held } in
    l.families.items ≡ map (λ (p : PartId). held_box x p.0) (take l.k l.lines)
