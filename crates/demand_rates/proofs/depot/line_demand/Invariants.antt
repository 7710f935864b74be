use Rattle.std.specs.Prelude.{◌≡◌, ◌-◌, ◌*◌, ◌≤◌, sum_by}
use Rattle.std.specs.List.{range_with_len}
use Rattle.fleet_model.specs.Units.{sent_0j}
use Rattle.demand_rates.proofs.depot.line_demand.Given as goal

abbrev pub invariant-loop-k : goal.invariant-loop-k
invariant-loop-k l = record {
  value : l.sum ≡ sum_by (sent_0j l.case l.line.0) (range_with_len 1 (l.k - 1));
  small : l.sum ≤ (l.k - 1) * 10000000000000;
}
