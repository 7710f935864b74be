use Rattle.std.proofs.Common.{◌*◌}
use Rattle.demand_rates.proofs.Ranges.{direct_most, direct_fits, small_enough}
use Rattle.demand_rates.proofs.WaitFacts.{base_shop_holds}
use Rattle.demand_rates.proofs.pairs.base_shop.Goals as goal

pub overflow_mul-result : goal.overflow_mul-result
overflow_mul-result c =
    direct_fits (c.shop_demand-demand.result * c.days_at.result) (direct_most c.shop_demand-demand.result c.days_at.result c.shop_demand-demand.ensures.small c.days_at.ensures.small)

pub returns-clause-rates : goal.returns-clause-rates
returns-clause-rates c =
    base_shop_holds c.args.case.now c.args.line.0 c.args.shop.0 c.args.base.0 c.shop_demand-demand.result c.ship_days.result c.days_at.result c.shop_sent.result
    c.args.depot c.shop_mean.result c.rate_row-line_row.result c.rate_row-row.result c.share_of.result c.requires.not_depot c.rate_row-line_row.ensures.row
    c.rate_row-row.ensures.row c.ship_days.ensures.row c.shop_demand-demand.ensures.value c.days_at.ensures.value c.shop_sent.ensures.value c.requires.depot
    c.share_of.ensures c.shop_mean.ensures.value

pub returns-clause-small : goal.returns-clause-small
returns-clause-small c =
    small_enough (c.shop_demand-demand.result * c.days_at.result) (direct_most c.shop_demand-demand.result c.days_at.result c.shop_demand-demand.ensures.small c.days_at.ensures.small)
