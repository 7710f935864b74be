use Rattle.std.proofs.Common.{◌*◌, ◌≤◌, lit<, subst, sym}
use Rattle.demand_rates.specs.RateLists.{rates_at}
use Rattle.family_items.proofs.Ranges.{few, has_pair, has_rates, its_rates, pipeline_from_is, pipeline_made, rated, ratios_small}
use Rattle.family_items.proofs.inputs.Inputs.pipeline.Goals as goal

pub get-requires : goal.get-requires
get-requires g c = has_pair _ _ c.args.part c.args.site c.self.invariant c.self.view_is c.requires.part c.requires.site

pub direct-requires : goal.direct-requires
direct-requires g c = has_rates _ _ c.args.part c.args.site c.self.invariant c.self.view_is c.requires.part c.requires.site

pub pipeline_ends-requires : goal.pipeline_ends-requires
pipeline_ends-requires g c =
    let r = its_rates _ _ c.args.part c.args.site c.self.invariant c.self.view_is c.requires.part c.requires.site in
    (lit< tt, (c.requires.scale, subst (λ n. n ≤ 4096 * 365000000000000000000) (sym c.direct.ensures) (ratios_small _ _ (rated c.self.inside.case.now c.args.part.0 c.args.site.0 (rates_at c.self.inside.rates.now c.args.part.0 c.args.site.0) r)).0))

pub zero_stock-requires : goal.zero_stock-requires
zero_stock-requires g c = has_rates _ _ c.args.part c.args.site c.self.invariant c.self.view_is c.requires.part c.requires.site

pub pipeline_ends-requires-2 : goal.pipeline_ends-requires-2
pipeline_ends-requires-2 g c =
    let r = its_rates _ _ c.args.part c.args.site c.self.invariant c.self.view_is c.requires.part c.requires.site in
    (lit< tt, (c.requires.scale, subst (λ n. n ≤ 4096 * 365000000000000000000) (sym c.zero_stock.ensures) (ratios_small _ _ (rated c.self.inside.case.now c.args.part.0 c.args.site.0 (rates_at c.self.inside.rates.now c.args.part.0 c.args.site.0) r)).1))

pub returns-clause-pipeline : goal.returns-clause-pipeline
returns-clause-pipeline g c =
    pipeline_made _ _ c.args.part c.args.site c.self.invariant c.self.view_is c.requires.part c.requires.site g.row.F c.get.result c.direct.result c.zero_stock.result
    c.hi.result c.pipeline_ends.result c.pipeline_ends-2.result c.get.ensures c.direct.ensures c.zero_stock.ensures c.pipeline_ends.ensures.ends c.pipeline_ends-2.ensures.ends c.hi.ensures.end

pub returns-clause-valid : goal.returns-clause-valid
returns-clause-valid g c =
    let r = its_rates _ _ c.args.part c.args.site c.self.invariant c.self.view_is c.requires.part c.requires.site in
    let stocks = few _ _ c.args.part c.args.site c.self.invariant c.self.view_is c.requires.part c.requires.site c.get.result c.get.ensures in
    rw (c.pipeline_ends.ensures.ends, c.hi.ensures.end, c.pipeline_ends-2.ensures.ends, c.direct.ensures, c.zero_stock.ensures)
    (pipeline_from_is g.row.F c.args.part.0 c.args.site.0 c.get.result (rates_at c.self.inside.rates.now c.args.part.0 c.args.site.0) c.requires.scale.0 stocks
    (rated c.self.inside.case.now c.args.part.0 c.args.site.0 (rates_at c.self.inside.rates.now c.args.part.0 c.args.site.0) r))
