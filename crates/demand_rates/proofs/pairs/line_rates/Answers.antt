use Rattle.std.proofs.Common.{◌<◌, ◌≢◌, ℕ, length, arith}
use Rattle.demand_rates.proofs.DepotFacts.{demands_count, line_depot}
use Rattle.demand_rates.proofs.WaitFacts.{base_wait_few, part_there, site_there, wait_few, wait_there}
use Rattle.demand_rates.proofs.pairs.line_rates.Goals as goal

some_before : (k n : ℕ) → k < n → 0 < n
some_before k n h = omega (arith, h)

some_past : (k : ℕ) → k ≢ 0 → 0 < k
some_past k h = omega (arith, h)

pub bounds-demands-line : goal.bounds-demands-line
bounds-demands-line c = omega (arith, demands_count c.args.case.now c.args.demands.now c.requires.demands, c.requires.line)

pub depot_line-requires-clause-demand : goal.depot_line-requires-clause-demand
depot_line-requires-clause-demand c = line_depot c.args.case.now c.args.demands.now c.args.line.0 c.requires.demands c.requires.line c.requires.line_unit

pub base_line-requires-clause-depot : goal.base_line-requires-clause-depot
base_line-requires-clause-depot c = line_depot c.args.case.now c.args.demands.now c.args.line.0 c.requires.demands c.requires.line c.requires.line_unit

pub wait_at-depot_wait-requires-clause-site : goal.wait_at-depot_wait-requires-clause-site
wait_at-depot_wait-requires-clause-site c = site_there (λ w. w.items) c.args.case.now c.args.waits.now c.requires.waits 0 (some_before c.args.site.0 (length c.args.case.now.sites) c.requires.site)

pub wait_at-depot_wait-requires-clause-part : goal.wait_at-depot_wait-requires-clause-part
wait_at-depot_wait-requires-clause-part c = part_there (λ w. w.items) c.args.case.now c.args.waits.now c.requires.waits 0 (some_before c.args.site.0 (length c.args.case.now.sites) c.requires.site) c.args.line.0 c.requires.line

pub depot_line-requires-clause-small_demand : goal.depot_line-requires-clause-small_demand
depot_line-requires-clause-small_demand c = c.requires.demands.lines c.args.line.0 c.requires.line c.requires.line_unit

pub depot_line-requires-clause-wait : goal.depot_line-requires-clause-wait
depot_line-requires-clause-wait c = wait_there (λ w. w.items) c.args.case.now c.args.waits.now c.requires.waits 0 (some_before c.args.site.0 (length c.args.case.now.sites) c.requires.site) c.args.line.0 c.requires.line c.wait_at-depot_wait.result c.wait_at-depot_wait.ensures

pub depot_line-requires-clause-small_wait : goal.depot_line-requires-clause-small_wait
depot_line-requires-clause-small_wait c = wait_few (λ w. w.items) c.args.case.now c.args.waits.now c.requires.waits 0 (some_before c.args.site.0 (length c.args.case.now.sites) c.requires.site) c.args.line.0 c.requires.line c.wait_at-depot_wait.result c.wait_at-depot_wait.ensures

pub wait_at-requires-clause-site : goal.wait_at-requires-clause-site
wait_at-requires-clause-site c = site_there (λ w. w.items) c.args.case.now c.args.waits.now c.requires.waits c.args.site.0 c.requires.site

pub wait_at-requires-clause-part : goal.wait_at-requires-clause-part
wait_at-requires-clause-part c = part_there (λ w. w.items) c.args.case.now c.args.waits.now c.requires.waits c.args.site.0 c.requires.site c.args.line.0 c.requires.line

pub base_line-requires-clause-not_depot : goal.base_line-requires-clause-not_depot
base_line-requires-clause-not_depot c = some_past c.args.site.0 c.if-site-eq0.false

pub base_line-requires-clause-depot_wait : goal.base_line-requires-clause-depot_wait
base_line-requires-clause-depot_wait c = wait_there (λ w. w.items) c.args.case.now c.args.waits.now c.requires.waits 0 (some_before c.args.site.0 (length c.args.case.now.sites) c.requires.site) c.args.line.0 c.requires.line c.wait_at-depot_wait.result c.wait_at-depot_wait.ensures

pub base_line-requires-clause-small_depot_wait : goal.base_line-requires-clause-small_depot_wait
base_line-requires-clause-small_depot_wait c = wait_few (λ w. w.items) c.args.case.now c.args.waits.now c.requires.waits 0 (some_before c.args.site.0 (length c.args.case.now.sites) c.requires.site) c.args.line.0 c.requires.line c.wait_at-depot_wait.result c.wait_at-depot_wait.ensures

pub base_line-requires-clause-wait : goal.base_line-requires-clause-wait
base_line-requires-clause-wait c = wait_there (λ w. w.items) c.args.case.now c.args.waits.now c.requires.waits c.args.site.0 c.requires.site c.args.line.0 c.requires.line c.wait_at.result c.wait_at.ensures

pub base_line-requires-clause-small_wait : goal.base_line-requires-clause-small_wait
base_line-requires-clause-small_wait c = base_wait_few c.wait_at.result c.args.site.0 (wait_few (λ w. w.items) c.args.case.now c.args.waits.now c.requires.waits c.args.site.0 c.requires.site c.args.line.0 c.requires.line c.wait_at.result c.wait_at.ensures)
