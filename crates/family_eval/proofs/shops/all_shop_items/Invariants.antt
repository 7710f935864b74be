use Rattle.std.proofs.Common.{◌≡◌, flat_map, take}
use Rattle.spares_input.specs.declared.rows.PartId.{PartId}
use Rattle.family_items.specs.Profile.{part_items}
use Rattle.family_eval.proofs.shops.all_shop_items.Given as goal

abbrev pub invariant-loop-part : goal.invariant-loop-part
invariant-loop-part g l = l.items.items ≡ flat_map (λ (p : PartId). part_items g.row.F l.fn.inputs.case l.fn.inputs.stocks.list p.0) (take l.part-index l.fn.shops)
