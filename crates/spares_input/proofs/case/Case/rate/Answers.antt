use Rattle.std.proofs.Common.{length, refl}
use Rattle.spares_input.proofs.CaseFacts.{fields_read, pair_read, part_there, place_in_list, row_read, site_there}
use Rattle.spares_input.proofs.case.Case.rate.Goals as goal

pub pair_place-requires-clause-few_sites : goal.pair_place-requires-clause-few_sites
pair_place-requires-clause-few_sites c = rw c.site_count-sites.ensures.count c.self.invariant.frame.most_sites

pub pair_place-requires-clause-few_parts : goal.pair_place-requires-clause-few_parts
pair_place-requires-clause-few_parts c = rw c.part_count-parts.ensures.count c.self.invariant.frame.most_parts

pub pair_place-requires-clause-part : goal.pair_place-requires-clause-part
pair_place-requires-clause-part c = rw c.part_count-parts.ensures.count (part_there _ _ c.self.view_is c.self.invariant c.args.part.0 c.args.site.0 c.requires.part c.requires.site)

pub pair_place-requires-clause-site : goal.pair_place-requires-clause-site
pair_place-requires-clause-site c = rw c.site_count-sites.ensures.count (site_there _ _ c.self.view_is c.self.invariant c.args.part.0 c.args.site.0 c.requires.part c.requires.site)

pub index-requires : goal.index-requires
index-requires c =
    place_in_list c.pair_place.result c.part_count-parts.result c.site_count-sites.result _ _ _ _ c.self.inside.rates.ok.0 c.self.invariant.rate_count
    c.part_count-parts.ensures.count c.site_count-sites.ensures.count c.pair_place.ensures.within

pub returns-clause-row : goal.returns-clause-row
returns-clause-row c =
    row_read _ _ c.self.view_is c.self.invariant c.args.part.0 c.args.site.0 c.requires.part c.requires.site
    c.index.result.now c.pair_place.result c.site_count-sites.result c.site_count-sites.ensures.count c.pair_place.ensures.place
    (place_in_list c.pair_place.result c.part_count-parts.result c.site_count-sites.result (length c.self.inside.rates.items) _ _ _ refl c.self.invariant.rate_count c.part_count-parts.ensures.count c.site_count-sites.ensures.count c.pair_place.ensures.within) c.index.ensures

pub returns-clause-pair : goal.returns-clause-pair
returns-clause-pair c =
    pair_read _ _ c.self.view_is c.self.invariant c.args.part.0 c.args.site.0 c.requires.part c.requires.site
    c.index.result.now c.pair_place.result c.site_count-sites.result c.site_count-sites.ensures.count c.pair_place.ensures.place
    (place_in_list c.pair_place.result c.part_count-parts.result c.site_count-sites.result (length c.self.inside.rates.items) _ _ _ refl c.self.invariant.rate_count c.part_count-parts.ensures.count c.site_count-sites.ensures.count c.pair_place.ensures.within) c.index.ensures

pub returns-clause-fields : goal.returns-clause-fields
returns-clause-fields c =
    fields_read _ _ c.self.view_is c.self.invariant c.args.part.0 c.args.site.0 c.requires.part c.requires.site
    c.index.result.now c.pair_place.result c.site_count-sites.result c.site_count-sites.ensures.count c.pair_place.ensures.place
    (place_in_list c.pair_place.result c.part_count-parts.result c.site_count-sites.result (length c.self.inside.rates.items) _ _ _ refl c.self.invariant.rate_count c.part_count-parts.ensures.count c.site_count-sites.ensures.count c.pair_place.ensures.within) c.index.ensures
