use Rattle.std.proofs.Common.{◌≡◌, map, flat_map}
use Rattle.std.specs.List.{range_with_len}
use Rattle.spares_input.specs.Stocks.{limit_at}
use Rattle.fleet_model.specs.Fleet.{family}
use Rattle.family_points.proofs.places.limits_of.Given as goal

abbrev pub invariant-loop-k : goal.invariant-loop-k
invariant-loop-k l = l.list.items ≡ flat_map (λ k. map (λ p. limit_at l.case.parts p k) (family l.case l.fn.line.0)) (range_with_len 0 l.k)
