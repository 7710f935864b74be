use Rattle.std.proofs.Common.{refl, ◌∙◌, length}
use Rattle.list_laws.proofs.Public.{within_product}
use Rattle.spares_input.specs.First.{first}
use Rattle.gap_rules.proofs.StockFaults.{own_stock, below_found, below_more}
use Rattle.gap_rules.proofs.stocks.below_held.Goals as goal

pub loop-i-init : goal.loop-i-init
unfolding first
loop-i-init c = refl

pub returns-then-stock-get : goal.returns-then-stock-get
returns-then-stock-get c =
    below_found c.args.case.now c.args.stocks.now c.from-sites.result c.loop-i.i c.get-stock.result c.pair_at.result.0 c.pair_at.result.1
    (record { sites = c.from-sites.ensures ∙ c.site_count.ensures.count; own_sites = c.requires.stocks.sites; part_is = c.pair_at.ensures.part; site_is = c.pair_at.ensures.site; stock_is = c.get-stock.ensures })
    c.args.held.now c.get.result _
    (own_stock c.args.case.now c.args.held.now c.from-sites.result c.loop-i.i c.get.result c.pair_at.result.0 c.pair_at.result.1
    (record { sites = c.from-sites.ensures ∙ c.site_count.ensures.count; own_sites = c.requires.held.sites; part_is = c.pair_at.ensures.part; site_is = c.pair_at.ensures.site; stock_is = c.get.ensures }))
    c.loop-i.invariant c.if-stock-get.true
    (within_product c.loop-i.i c.from.result c.from-sites.result (length c.args.case.now.parts) (length c.args.case.now.sites) (c.from.ensures ∙ c.part_count.ensures.count) (c.from-sites.ensures ∙ c.site_count.ensures.count) c.loop-i-test.true)

pub loop-i-preserved : goal.loop-i-preserved
loop-i-preserved c =
    below_more c.args.case.now c.args.stocks.now c.from-sites.result c.loop-i.i c.get-stock.result c.pair_at.result.0 c.pair_at.result.1
    (record { sites = c.from-sites.ensures ∙ c.site_count.ensures.count; own_sites = c.requires.stocks.sites; part_is = c.pair_at.ensures.part; site_is = c.pair_at.ensures.site; stock_is = c.get-stock.ensures })
    c.args.held.now c.get.result 0
    (own_stock c.args.case.now c.args.held.now c.from-sites.result c.loop-i.i c.get.result c.pair_at.result.0 c.pair_at.result.1
    (record { sites = c.from-sites.ensures ∙ c.site_count.ensures.count; own_sites = c.requires.held.sites; part_is = c.pair_at.ensures.part; site_is = c.pair_at.ensures.site; stock_is = c.get.ensures }))
    c.loop-i.invariant c.if-stock-get.false
