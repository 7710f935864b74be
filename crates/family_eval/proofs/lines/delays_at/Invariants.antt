use Rattle.std.proofs.Common.{◌≡◌, map, take}
use Rattle.spares_input.specs.declared.rows.PartId.{PartId}
use Rattle.family_items.specs.Profile.{delay_of, item_of}
use Rattle.family_eval.proofs.lines.delays_at.Given as goal

abbrev pub invariant-loop-i : goal.invariant-loop-i
invariant-loop-i g l = l.delays.items ≡ map (λ (p : PartId). delay_of g.row.F (item_of g.row.F l.fn.inputs.case l.fn.inputs.stocks.list p.0 l.fn.site.0)) (take l.i l.fn.shops)
