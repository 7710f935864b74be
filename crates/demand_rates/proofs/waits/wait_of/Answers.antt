use Rattle.std.proofs.Common.{◌≡◌, ◌≢◌, ℕ, zero, suc, ◌∙◌, refl}
use Rattle.spares_input.specs.Cases.{CaseRows}
use Rattle.fleet_model.specs.Units.{zero_stock_units_ij}
use Rattle.demand_rates.specs.Waits.{wait, wait_most}
use Rattle.demand_rates.proofs.waits.wait_of.Goals as goal

wait_past : (c : CaseRows) (l s i : ℕ) → s ≢ 0 → zero_stock_units_ij c l i s ≡ wait c l s i
wait_past c l zero i past = absurd (past refl)
wait_past c l (suc s) i past = refl

most_past : (s : ℕ) → s ≢ 0 → wait_most s ≡ 3000000000000000000000000000
most_past zero past = absurd (past refl)
most_past (suc s) past = refl

pub returns-then-site-eq0-clause-value : goal.returns-then-site-eq0-clause-value
returns-then-site-eq0-clause-value c = rw c.if-site-eq0.true (c.depot_wait.ensures.value ∙ rw c.depot_row.ensures.row refl)

pub returns-then-site-eq0-clause-small : goal.returns-then-site-eq0-clause-small
returns-then-site-eq0-clause-small c = rw c.if-site-eq0.true c.depot_wait.ensures.small

pub returns-else-site-eq0-clause-value : goal.returns-else-site-eq0-clause-value
returns-else-site-eq0-clause-value c = c.shop_mean.ensures.value ∙ wait_past c.args.case.now c.args.line.0 c.args.site.0 c.args.shop.0 c.if-site-eq0.false

pub returns-else-site-eq0-clause-small : goal.returns-else-site-eq0-clause-small
returns-else-site-eq0-clause-small c = rw (most_past c.args.site.0 c.if-site-eq0.false) c.shop_mean.ensures.small
