use Rattle.std.proofs.Common.{List, ◌++◌, map, ap, ◌∙◌}
use Rattle.std.proofs.lemmas.List.{take_all}
use Rattle.spares_input.specs.declared.rows.PartId.{PartId}
use Rattle.spares_input.specs.Stocks.{stock_at}
use Rattle.family_points.proofs.Mapped.{mapped_on}
use Rattle.family_points.proofs.places.put_stocks.Goals as goal

pub get-requires : goal.get-requires
get-requires c = c.requires c.loop-part.part-index (record { 0 = 0 }) c.loop-part-test.true

pub loop-part-preserved : goal.loop-part-preserved
loop-part-preserved c =
    mapped_on (λ (p : PartId). stock_at c.args.stocks.now p.0 c.args.site.0) c.args.members.now c.loop-part.part-index (record { 0 = 0 }) c.args.list.now.items
    c.loop-part.list.items c.push.new.self.items c.get.result c.loop-part-test.true c.loop-part.invariant c.in_ok-push.ensures.items c.get.ensures

pub returns : goal.returns
returns c =
    c.loop-part.invariant
    ∙ ap (λ (ids : List PartId). c.args.list.now.items ++ map (λ (p : PartId). stock_at c.args.stocks.now p.0 c.args.site.0) ids) (take_all c.loop-part.part-index c.args.members.now c.loop-part-test.false)
