use Rattle.std.proofs.Common.{ℕ, ◌+◌, ◌*◌, ◌≤◌, ap, arith}
use Rattle.std.proofs.lemmas.Nat.{mul-le}
use mir.Val.{Fits}
use mir.Syntax.{w128}
use Rattle.spares_input.specs.declared.rows.RateRow.{RateRow}
use Rattle.demand_rates.proofs.Ranges.{direct_fits, small_enough}
use Rattle.demand_rates.proofs.WaitFacts.{base_line_holds}
use Rattle.demand_rates.proofs.pairs.base_line.Goals as goal

-- a demand over the days of a row, in units of the pipelines
direct_most : (demand days : ℕ) → demand ≤ 1000000000 → days ≤ 20000000000 → (demand * days ≤ 20000000000000000000) × (demand * days * 100000000 ≤ 2000000000000000000000000000)
direct_most demand days few_demands few_days =
    let product = mul-le demand days 1000000000 20000000000 few_demands few_days in
    (product, mul-le (demand * days) 100000000 20000000000000000000 100000000 product (omega arith))

sum_fits : (direct wait : ℕ) → direct ≤ 2000000000000000000000000000 → wait ≤ 3000000000000000000000000000000 → Fits w128 (direct + wait)
sum_fits direct wait few few_wait = omega arith

day_fits : (n : ℕ) → n ≤ 20000000000000000000 → Fits w128 n
day_fits n few = omega (arith, few)

mean_fits : (direct wait more : ℕ) → direct ≤ 2000000000000000000000000000 → wait ≤ 3000000000000000000000000000000 → more ≤ 6000000000000000000000000000000
    → Fits w128 (direct + wait + more)
mean_fits direct wait more few few_wait few_more = omega (arith, few, few_wait, few_more)

pub overflow_mul-direct : goal.overflow_mul-direct
overflow_mul-direct c =
    let most = direct_most c.from.result c.days_at.result (rw c.from.ensures c.rate_row-row.ensures.within.demand) c.days_at.ensures.small in
    day_fits (c.from.result * c.days_at.result) most.0

pub overflow_mul-direct-2 : goal.overflow_mul-direct-2
overflow_mul-direct-2 c =
    let most = direct_most c.from.result c.days_at.result (rw c.from.ensures c.rate_row-row.ensures.within.demand) c.days_at.ensures.small in
    direct_fits (c.from.result * c.days_at.result * 100000000) most.1

pub base_line_wait-requires-clause-sent : goal.base_line_wait-requires-clause-sent
base_line_wait-requires-clause-sent c = c.line_sent-sent.ensures.small

pub base_line_wait-requires-clause-days : goal.base_line_wait-requires-clause-days
base_line_wait-requires-clause-days c = c.depot_row-days.ensures.within.days

pub base_line_wait-requires-clause-wait : goal.base_line_wait-requires-clause-wait
base_line_wait-requires-clause-wait c = c.requires.small_depot_wait

pub overflow_add-result : goal.overflow_add-result
overflow_add-result c =
    let most = direct_most c.from.result c.days_at.result (rw c.from.ensures c.rate_row-row.ensures.within.demand) c.days_at.ensures.small in
    sum_fits (c.from.result * c.days_at.result * 100000000) c.base_line_wait.result most.1 c.base_line_wait.ensures.small

pub returns-clause-small : goal.returns-clause-small
returns-clause-small c =
    let most = direct_most c.from.result c.days_at.result (rw c.from.ensures c.rate_row-row.ensures.within.demand) c.days_at.ensures.small in
    small_enough (c.from.result * c.days_at.result * 100000000) most.1

pub overflow_add-result-2 : goal.overflow_add-result-2
overflow_add-result-2 c =
    let most = direct_most c.from.result c.days_at.result (rw c.from.ensures c.rate_row-row.ensures.within.demand) c.days_at.ensures.small in
    mean_fits (c.from.result * c.days_at.result * 100000000) c.base_line_wait.result c.args.wait most.1 c.base_line_wait.ensures.small c.requires.small_wait

pub returns-clause-rates : goal.returns-clause-rates
returns-clause-rates c =
    base_line_holds c.args.case.now c.args.line.0 c.args.base.0 c.from.result c.from-2.result c.ship_days.result c.days_at.result c.line_sent-sent.result c.args.depot
    c.depot_row-days.result.repair_days c.args.depot_wait c.base_line_wait.result c.args.wait c.rate_row-row.result c.share_of.result c.requires.not_depot
    c.rate_row-row.ensures.row c.ship_days.ensures.row c.from.ensures c.from-2.ensures c.days_at.ensures.value c.line_sent-sent.ensures.value c.requires.depot
    c.share_of.ensures (ap (λ (r : RateRow). r.repair_days) c.depot_row-days.ensures.row) c.requires.depot_wait c.base_line_wait.ensures.value c.requires.wait
