use Rattle.std.proofs.Common.{ℕ, ◌+◌, ◌*◌, ◌≤◌, arith}
use mir.Val.{Fits}
use mir.Syntax.{w128}
use Rattle.demand_rates.proofs.Ranges.{direct_most, direct_fits}
use Rattle.demand_rates.proofs.waits.shop_mean.Goals as goal

mean_most : (direct sent repair : ℕ) → direct ≤ 2000000000000000000000000000 → sent ≤ 1000000000000000000000 → repair ≤ sent * 999999
    → direct + repair ≤ 3000000000000000000000000000
mean_most direct sent repair few few_sent most = omega arith

mean_fits : (mean : ℕ) → mean ≤ 3000000000000000000000000000 → Fits w128 mean
mean_fits mean few = omega arith

pub overflow_mul-direct : goal.overflow_mul-direct
overflow_mul-direct c =
    direct_fits (c.shop_demand.result * c.days_at.result) (direct_most c.shop_demand.result c.days_at.result c.shop_demand.ensures.small c.days_at.ensures.small)

pub overflow_add-result : goal.overflow_add-result
overflow_add-result c =
    let direct = direct_most c.shop_demand.result c.days_at.result c.shop_demand.ensures.small c.days_at.ensures.small in
    mean_fits (c.shop_demand.result * c.days_at.result + c.in_repair.result)
    (mean_most (c.shop_demand.result * c.days_at.result) c.shop_sent.result c.in_repair.result direct c.shop_sent.ensures.small c.in_repair.ensures.small)

pub returns-clause-small : goal.returns-clause-small
returns-clause-small c =
    let direct = direct_most c.shop_demand.result c.days_at.result c.shop_demand.ensures.small c.days_at.ensures.small in
    mean_most (c.shop_demand.result * c.days_at.result) c.shop_sent.result c.in_repair.result direct c.shop_sent.ensures.small c.in_repair.ensures.small
