use Rattle.demand_rates.proofs.RateFacts.{rates_model}
use Rattle.demand_rates.proofs.case_rates.rates.Goals as goal

pub returns-clause-model : goal.returns-clause-model
returns-clause-model c =
    rates_model c.args.case.now c.of.result c.site_count.result c.in_ok-pairs.pairs.items c.site_count.ensures.valid c.in_ok-pairs.ensures.fault c.of.ensures
    c.site_count.ensures.count c.in_ok-pairs.ensures.pairs
