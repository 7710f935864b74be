use Rattle.std.proofs.Common.{◌≡◌, ap₂, ◌∙◌, get_or, sym, subst}
use Rattle.std.proofs.lemmas.List.Elements.{All-push}
use Rattle.list_laws.proofs.Public.{pushed_all, pushed_next}
use Rattle.spares_input.specs.declared.rows.PartId.{PartId}
use Rattle.depot_pipeline.specs.Exact.{IsSmallFeed}
use Rattle.metric_compare.specs.Profile.{poisson_depot_feed, fed}
use Rattle.metric_compare.proofs.lines.depot_feeds.Goals as goal

pub at_depot-depot-requires-clause-unit : goal.at_depot-depot-requires-clause-unit
at_depot-depot-requires-clause-unit c = c.requires.units c.loop-unit.unit-index _ c.loop-unit-test.true

pub loop-unit-preserved : goal.loop-unit-preserved
loop-unit-preserved c =
    let f = λ (p : PartId). poisson_depot_feed 48 c.args.inputs.now.case c.args.inputs.now.stocks.list p.0 in
    let unit : PartId = get_or c.args.units.now c.loop-unit.unit-index (record { 0 = 0 }) in
    let is : c.fed.result ≡ f unit = c.fed.ensures ∙ ap₂ (λ a b. fed 48 a b) c.share.ensures.share c.at_depot-depot.ensures.ends in
    let small : IsSmallFeed 48 c.fed.result =
    subst (IsSmallFeed 48) (sym c.fed.ensures) (record { share = c.share.ensures.most; backorders = c.at_depot-depot.ensures.small; spread = c.at_depot-depot.ensures.small }) in
    record {
      feeds = pushed_next f c.args.units.now c.loop-unit.unit-index (record { 0 = 0 }) c.loop-unit.feeds.items c.push.new.self.items c.fed.result c.loop-unit-test.true c.in_ok-push.ensures.items
          c.loop-unit.invariant.feeds is;
      small = rw c.in_ok-push.ensures.items (All-push (IsSmallFeed 48) c.loop-unit.feeds.items c.fed.result c.loop-unit.invariant.small small);
    }

pub returns-clause-feeds : goal.returns-clause-feeds
returns-clause-feeds c =
    pushed_all (λ (p : PartId). poisson_depot_feed 48 c.args.inputs.now.case c.args.inputs.now.stocks.list p.0) c.args.units.now c.loop-unit.unit-index c.loop-unit.feeds.items c.loop-unit-test.false
    c.loop-unit.invariant.feeds
