use Rattle.std.proofs.Common.{◌≡◌, ◌∙◌, ◌*◌, ◌<◌, ap, ap₂, length, subst, sym}
use Rattle.fixed_interval.specs.Ends.{IsWithinLimit}
use Rattle.spares_input.specs.Pairs.{pair_place}
use Rattle.metric_compare.specs.Levels.{of_shop}
use Rattle.metric_compare.proofs.Adding.{all_within, shop_small, read_all}
use Rattle.metric_compare.proofs.shops.number_at.Goals as goal

pub bounds-shops-pair_place : goal.bounds-shops-pair_place
bounds-shops-pair_place c =
    let parts : c.from-parts.result ≡ length c.args.inputs.now.case.parts = c.from-parts.ensures ∙ (rw c.case.ensures at c.part_count.ensures.count) in
    let sites : c.from-sites.result ≡ length c.args.inputs.now.case.sites = c.from-sites.ensures ∙ c.sites.ensures.count in
    all_within c.args.inputs.now.case (of_shop c.args.inputs.now.case c.args.inputs.now.stocks.list) c.args.shops.now c.pair_place.result c.requires.shops
    (subst (λ m. c.pair_place.result < m) (ap₂ (λ a b. a * b) parts sites) c.pair_place.ensures.within)

pub returns-clause-ends : goal.returns-clause-ends
returns-clause-ends c =
    let sites : c.from-sites.result ≡ length c.args.inputs.now.case.sites = c.from-sites.ensures ∙ c.sites.ensures.count in
    read_all c.args.inputs.now.case (of_shop c.args.inputs.now.case c.args.inputs.now.stocks.list) c.args.shops.now c.args.part.0 c.args.site.0 c.pair_place.result
    c.index-shops-pair_place.result c.index-shops-pair_place.result c.requires.shops c.requires.part c.requires.site
    (c.pair_place.ensures.place ∙ ap (λ n. pair_place n c.args.part.0 c.args.site.0) sites) c.index-shops-pair_place.is

pub returns-clause-small : goal.returns-clause-small
returns-clause-small c =
    let sites : c.from-sites.result ≡ length c.args.inputs.now.case.sites = c.from-sites.ensures ∙ c.sites.ensures.count in
    let is : c.index-shops-pair_place.result ≡ of_shop c.args.inputs.now.case c.args.inputs.now.stocks.list c.args.part.0 c.args.site.0 =
    read_all c.args.inputs.now.case (of_shop c.args.inputs.now.case c.args.inputs.now.stocks.list) c.args.shops.now c.args.part.0 c.args.site.0 c.pair_place.result
    c.index-shops-pair_place.result c.index-shops-pair_place.result c.requires.shops c.requires.part c.requires.site
    (c.pair_place.ensures.place ∙ ap (λ n. pair_place n c.args.part.0 c.args.site.0) sites) c.index-shops-pair_place.is in
    subst (IsWithinLimit 48) (sym is) (shop_small c.args.inputs.now.case c.args.inputs.now.stocks.list c.sites.ensures.valid c.args.part.0 c.args.site.0 c.requires.part c.requires.site)
