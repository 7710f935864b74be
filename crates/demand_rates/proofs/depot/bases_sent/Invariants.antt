use Rattle.std.specs.Prelude.{◌≡◌, ◌-◌, ◌*◌, ◌≤◌, sum_by}
use Rattle.std.specs.List.{range_with_len}
use Rattle.fleet_model.specs.Units.{sent_ij}
use Rattle.demand_rates.proofs.depot.bases_sent.Given as goal

abbrev pub invariant-loop-k : goal.invariant-loop-k
invariant-loop-k l = record {
  value : l.sum ≡ sum_by (sent_ij l.case l.line.0 l.shop.0) (range_with_len 1 (l.k - 1));
  small : l.sum ≤ (l.k - 1) * 1000000000000000000000;
}
