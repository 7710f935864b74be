use Rattle.std.proofs.Common.{◌≡◌, map, take}
use Rattle.spares_input.specs.declared.rows.PartId.{PartId}
use Rattle.family_items.specs.Profile.{family_of}
use Rattle.family_eval.proofs.evaluate_all.Given as goal

abbrev pub invariant-loop-line : goal.invariant-loop-line
invariant-loop-line g l = l.families.items ≡ map (λ (p : PartId). family_of g.row.F l.fn.case p.0 l.fn.stocks) (take l.line-index l.lines)
