use Rattle.std.proofs.Common.{◌≡◌, ◌∙◌, map, ap, length, arith}
use Rattle.std.specs.List.{range_with_len}
use Rattle.list_laws.proofs.Public.{mapped_more}
use Rattle.fleet_model.specs.Units.{demand_units}
use Rattle.demand_rates.proofs.DepotFacts.{demands_are}
use Rattle.demand_rates.proofs.depot.depot_demands.Goals as goal

pub loop-p-preserved : goal.loop-p-preserved
loop-p-preserved c =
    mapped_more (λ p. demand_units c.args.case.now p 0) c.loop-p.p c.loop-p.demands.items c.push.new.self.items c.part_demand.result c.in_ok-push.ensures.items
    c.loop-p.invariant c.part_demand.ensures

pub returns : goal.returns
returns c =
    let all : c.loop-p.p ≡ length c.args.case.now.parts = omega (arith, c.loop-p-test.false, c.loop-p.auto.p-end, c.part_count-parts.ensures.count) in
    demands_are c.args.case.now c.loop-p.demands.items c.part_count-parts.ensures.valid
    (c.loop-p.invariant ∙ ap (λ n. map (λ p. demand_units c.args.case.now p 0) (range_with_len 0 n)) all)
