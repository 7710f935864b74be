use Rattle.std.specs.Prelude.{◌≡◌, map}
use Rattle.std.specs.List.{range_with_len}
use Rattle.fleet_model.specs.Units.{demand_units}
use Rattle.demand_rates.proofs.depot.depot_demands.Given as goal

abbrev pub invariant-loop-p : goal.invariant-loop-p
invariant-loop-p l = l.demands.items ≡ map (λ p. demand_units l.case p 0) (range_with_len 0 l.p)
