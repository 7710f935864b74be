use Rattle.std.proofs.Common.{◌≡◌, ◌*◌, ◌∙◌, ap, refl}
use Rattle.fleet_model.specs.Units.{direct_units_00}
use Rattle.demand_rates.proofs.WaitFacts.{depot_line_holds}
use Rattle.demand_rates.proofs.pairs.depot_line.Goals as goal

pub returns-clause-rates : goal.returns-clause-rates
returns-clause-rates c =
    let direct : c.in_repair-direct.result * 100000000 ≡ direct_units_00 c.args.case.now c.args.line.0 =
    ap (λ n. n * 100000000) c.in_repair-direct.ensures.value ∙ rw (c.requires.demand, c.depot_row.ensures.row) refl in
    depot_line_holds c.args.case.now c.args.line.0 (c.in_repair-direct.result * 100000000) c.args.demand c.args.wait c.requires.demand direct c.requires.wait
