use Rattle.std.proofs.Common.{ap, lit<}
use Rattle.demand_rates.specs.RateLists.{rates_at}
use Rattle.family_items.proofs.Ranges.{has_rates, its_rates, share_made, share_most}
use Rattle.family_items.proofs.inputs.Inputs.share.Goals as goal

pub share-share-requires : goal.share-share-requires
share-share-requires g c = has_rates _ _ c.args.part c.args.site c.self.invariant c.self.view_is c.requires.part c.requires.site

pub share_ends-requires : goal.share_ends-requires
share_ends-requires g c =
    let r = its_rates _ _ c.args.part c.args.site c.self.invariant c.self.view_is c.requires.part c.requires.site in
    (lit< tt, (c.requires.scale, (rw c.share-share.ensures r.some_share, (rw c.share-share.ensures r.share_small, rw c.share-share.ensures r.share_most))))

pub returns-clause-share : goal.returns-clause-share
returns-clause-share g c =
    share_made _ _ c.args.part c.args.site c.self.invariant c.self.view_is c.requires.part c.requires.site g.row.F _ _ c.share_ends.result
    (ap (λ r. r.num) c.share-share.ensures) (ap (λ r. r.den) c.share-share.ensures) c.share_ends.ensures.ends

pub returns-clause-most : goal.returns-clause-most
returns-clause-most g c =
    let r = its_rates _ _ c.args.part c.args.site c.self.invariant c.self.view_is c.requires.part c.requires.site in
    rw (c.share_ends.ensures.ends, c.share-share.ensures)
    (share_most g.row.F (rates_at c.self.inside.rates.now c.args.part.0 c.args.site.0) r.share_most r.some_share)
