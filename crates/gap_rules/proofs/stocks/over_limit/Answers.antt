use Rattle.std.proofs.Common.{refl, ◌∙◌, length}
use Rattle.list_laws.proofs.Public.{within_product}
use Rattle.spares_input.specs.First.{first}
use Rattle.gap_rules.proofs.StockFaults.{over_found, over_more}
use Rattle.gap_rules.proofs.stocks.over_limit.Goals as goal

pub loop-i-init : goal.loop-i-init
unfolding first
loop-i-init c = refl

pub returns-then-limit-stock : goal.returns-then-limit-stock
returns-then-limit-stock c =
    over_found c.args.case.now c.args.stocks.now c.from-sites.result c.loop-i.i c.get-stock.result c.pair_at.result.0 c.pair_at.result.1
    (record { sites = c.from-sites.ensures ∙ c.site_count.ensures.count; own_sites = c.requires.sites; part_is = c.pair_at.ensures.part; site_is = c.pair_at.ensures.site; stock_is = c.get-stock.ensures })
    c.limit.result _ c.limit.ensures.limit c.loop-i.invariant c.if-limit-stock.true
    (within_product c.loop-i.i c.from.result c.from-sites.result (length c.args.case.now.parts) (length c.args.case.now.sites) (c.from.ensures ∙ c.part_count.ensures.count) (c.from-sites.ensures ∙ c.site_count.ensures.count) c.loop-i-test.true)

pub loop-i-preserved : goal.loop-i-preserved
loop-i-preserved c =
    over_more c.args.case.now c.args.stocks.now c.from-sites.result c.loop-i.i c.get-stock.result c.pair_at.result.0 c.pair_at.result.1
    (record { sites = c.from-sites.ensures ∙ c.site_count.ensures.count; own_sites = c.requires.sites; part_is = c.pair_at.ensures.part; site_is = c.pair_at.ensures.site; stock_is = c.get-stock.ensures })
    c.limit.result 0 c.limit.ensures.limit c.loop-i.invariant c.if-limit-stock.false
