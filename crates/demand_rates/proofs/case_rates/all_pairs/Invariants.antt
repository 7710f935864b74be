use Rattle.std.specs.Prelude.{◌≡◌, map, None}
use Rattle.std.specs.List.{range_with_len}
use Rattle.spares_input.specs.First.{first}
use Rattle.demand_rates.specs.Limits.{place_fault}
use Rattle.demand_rates.specs.Rates.{place_rates}
use Rattle.demand_rates.proofs.case_rates.all_pairs.Given as goal

abbrev pub invariant-loop-i : goal.invariant-loop-i
invariant-loop-i l = record {
  pairs : l.pairs.items ≡ map (place_rates l.case) (range_with_len 0 l.i);
  faultless : first (place_fault l.case) l.i ≡ None;
}
