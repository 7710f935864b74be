use Rattle.std.proofs.Common.{◌≡◌, ◌*◌, ◌/◌, ◌≤◌, get_or, sum, map}
use Rattle.std.specs.List.{range_with_len}
use Rattle.spares_input.specs.Frames.{part_at}
use Rattle.spares_input.proofs.stocks.cost_of.Given as goal

abbrev pub invariant-loop-i : goal.invariant-loop-i
invariant-loop-i l = record {
  cost : l.cost ≡ sum (map (λ i. get_or l.list i 0 * (part_at l.case.parts (i / l.sites)).cost) (range_with_len 0 l.i));
  bound : l.cost ≤ l.i * 25500000000;
}
