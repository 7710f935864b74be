use Rattle.std.proofs.Common.{◌≡◌, ◌*◌, ◌∙◌, refl, sym, ap, subst, length, map, None}
use Rattle.std.specs.List.{range_with_len}
use Rattle.list_laws.proofs.Public.{all_places, mapped_more, within_product}
use Rattle.spares_input.specs.First.{first}
use Rattle.spares_input.proofs.Public.{few_parts, few_sites, part_within, place_few, places_fit, site_within, some_sites, first_found, first_more}
use Rattle.demand_rates.specs.Limits.{place_fault}
use Rattle.demand_rates.specs.Rates.{place_rates}
use Rattle.demand_rates.proofs.RateFacts.{fault_at, rates_of_place}
use Rattle.demand_rates.proofs.case_rates.all_pairs.Goals as goal

pub loop-i-init : goal.loop-i-init
unfolding first
loop-i-init c = record { pairs = c.new-pairs.ensures.items; faultless = refl }

pub returns-in-Some-clause-fault : goal.returns-in-Some-clause-fault
returns-in-Some-clause-fault c =
    let rule = fault_at c.args.case.now c.site_count-sites.result c.loop-i.i c.pair_at.result.0 c.pair_at.result.1 c.pair_rates-rates.result
    c.site_count-sites.ensures.count c.pair_at.ensures.part c.pair_at.ensures.site c.pair_rates-rates.ensures.rates in
    let within = within_product c.loop-i.i c.part_count.result c.site_count-sites.result (length c.args.case.now.parts) (length c.args.case.now.sites)
    c.part_count.ensures.count c.site_count-sites.ensures.count c.loop-i-test.true in
    first_found (place_fault c.args.case.now) c.loop-i.i (length c.args.case.now.parts * length c.args.case.now.sites) c.in-Some.fault
    c.loop-i.invariant.faultless (sym rule ∙ sym c.in-Some.ensures) within

pub loop-i-preserved : goal.loop-i-preserved
loop-i-preserved c =
    let rule = fault_at c.args.case.now c.site_count-sites.result c.loop-i.i c.pair_at.result.0 c.pair_at.result.1 c.pair_rates-rates.result
    c.site_count-sites.ensures.count c.pair_at.ensures.part c.pair_at.ensures.site c.pair_rates-rates.ensures.rates in
    record {
      pairs = mapped_more (place_rates c.args.case.now) c.loop-i.i c.loop-i.pairs.items c.push.new.self.items c.pair_rates-rates.result c.in_ok-push.ensures.items
          c.loop-i.invariant.pairs
          (rates_of_place c.args.case.now c.site_count-sites.result c.loop-i.i c.pair_at.result.0 c.pair_at.result.1 c.pair_rates-rates.result
          c.site_count-sites.ensures.count c.pair_at.ensures.part c.pair_at.ensures.site c.pair_rates-rates.ensures.rates);
      faultless = first_more (place_fault c.args.case.now) c.loop-i.i c.loop-i.invariant.faultless (sym rule ∙ sym c.in_default.ensures);
    }

pub overflow_mul-places : goal.overflow_mul-places
overflow_mul-places c =
    places_fit c.part_count.result c.site_count-sites.result (few_parts c.args.case.now c.part_count.result c.part_count.ensures.valid c.part_count.ensures.count)
    (few_sites c.args.case.now c.site_count-sites.result c.part_count.ensures.valid c.site_count-sites.ensures.count)

pub pair_at-requires-clause-some_sites : goal.pair_at-requires-clause-some_sites
pair_at-requires-clause-some_sites c = some_sites c.args.case.now c.site_count-sites.result c.part_count.ensures.valid c.site_count-sites.ensures.count

pub pair_at-requires-clause-few_sites : goal.pair_at-requires-clause-few_sites
pair_at-requires-clause-few_sites c = few_sites c.args.case.now c.site_count-sites.result c.part_count.ensures.valid c.site_count-sites.ensures.count

pub pair_at-requires-clause-within : goal.pair_at-requires-clause-within
pair_at-requires-clause-within c =
    place_few c.args.case.now c.loop-i.i c.part_count.result c.site_count-sites.result c.part_count.ensures.valid c.part_count.ensures.count c.loop-i-test.true

pub pair_rates-rates-requires-clause-part : goal.pair_rates-rates-requires-clause-part
pair_rates-rates-requires-clause-part c =
    part_within c.loop-i.i c.site_count-sites.result c.part_count.result (length c.args.case.now.parts) c.pair_at.result.0 c.pair_at.ensures.part c.part_count.ensures.count
    (some_sites c.args.case.now c.site_count-sites.result c.part_count.ensures.valid c.site_count-sites.ensures.count) c.loop-i-test.true

pub pair_rates-rates-requires-clause-site : goal.pair_rates-rates-requires-clause-site
pair_rates-rates-requires-clause-site c =
    site_within c.loop-i.i c.site_count-sites.result (length c.args.case.now.sites) c.pair_at.result.1 c.pair_at.ensures.site c.site_count-sites.ensures.count
    (some_sites c.args.case.now c.site_count-sites.result c.part_count.ensures.valid c.site_count-sites.ensures.count)

pub returns-clause-fault : goal.returns-clause-fault
returns-clause-fault c =
    let all = all_places c.loop-i.i c.part_count.result c.site_count-sites.result (length c.args.case.now.parts) (length c.args.case.now.sites) c.part_count.ensures.count
    c.site_count-sites.ensures.count c.loop-i-test.false c.loop-i.auto.i-end in
    subst (λ n. first (place_fault c.args.case.now) n ≡ None) all c.loop-i.invariant.faultless

pub returns-clause-pairs : goal.returns-clause-pairs
returns-clause-pairs c =
    let all = all_places c.loop-i.i c.part_count.result c.site_count-sites.result (length c.args.case.now.parts) (length c.args.case.now.sites) c.part_count.ensures.count
    c.site_count-sites.ensures.count c.loop-i-test.false c.loop-i.auto.i-end in
    c.loop-i.invariant.pairs ∙ ap (λ n. map (place_rates c.args.case.now) (range_with_len 0 n)) all
