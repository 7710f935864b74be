use Rattle.std.proofs.Common.{List, ◌++◌, map, ap, ◌∙◌}
use Rattle.std.proofs.lemmas.List.{take_all}
use Rattle.spares_input.specs.declared.rows.PartId.{PartId}
use Rattle.spares_input.specs.Stocks.{limit_at}
use Rattle.family_points.proofs.Mapped.{mapped_on}
use Rattle.family_points.proofs.places.put_limits.Goals as goal

pub limit-requires-clause-part : goal.limit-requires-clause-part
limit-requires-clause-part c = c.requires.members c.loop-part.part-index (record { 0 = 0 }) c.loop-part-test.true

pub limit-requires-clause-site : goal.limit-requires-clause-site
limit-requires-clause-site c = c.requires.site

pub loop-part-preserved : goal.loop-part-preserved
loop-part-preserved c =
    mapped_on (λ (p : PartId). limit_at c.args.case.now.parts p.0 c.args.site.0) c.args.members.now c.loop-part.part-index (record { 0 = 0 }) c.args.list.now.items
    c.loop-part.list.items c.push.new.self.items c.limit.result c.loop-part-test.true c.loop-part.invariant c.in_ok-push.ensures.items c.limit.ensures.limit

pub returns : goal.returns
returns c =
    c.loop-part.invariant
    ∙ ap (λ (ids : List PartId). c.args.list.now.items ++ map (λ (p : PartId). limit_at c.args.case.now.parts p.0 c.args.site.0) ids) (take_all c.loop-part.part-index c.args.members.now c.loop-part-test.false)
