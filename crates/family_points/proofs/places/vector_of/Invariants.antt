use Rattle.std.proofs.Common.{◌≡◌, map, flat_map}
use Rattle.std.specs.List.{range_with_len}
use Rattle.fleet_model.specs.Rows.{stock}
use Rattle.fleet_model.specs.Fleet.{family}
use Rattle.family_points.proofs.places.vector_of.Given as goal

abbrev pub invariant-loop-k : goal.invariant-loop-k
invariant-loop-k l = l.list.items ≡ flat_map (λ k. map (λ p. stock l.case l.stocks.list p k) (family l.case l.fn.line.0)) (range_with_len 0 l.k)
