use Rattle.std.proofs.Common.{◌≡◌, map, take}
use Rattle.spares_input.specs.declared.rows.PartId.{PartId}
use Rattle.family_items.specs.Profile.{feed_of, item_of, share_of}
use Rattle.family_eval.proofs.lines.depot_feeds.Given as goal

abbrev pub invariant-loop-i : goal.invariant-loop-i
invariant-loop-i g l = l.feeds.items ≡ map (λ (p : PartId). feed_of g.row.F (share_of g.row.F l.fn.inputs.case p.0 0) (item_of g.row.F l.fn.inputs.case l.fn.inputs.stocks.list p.0 0)) (take l.i l.fn.shops)
