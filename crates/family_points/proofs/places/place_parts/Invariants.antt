use Rattle.std.proofs.Common.{◌≡◌, ℕ, map, flat_map}
use Rattle.std.specs.List.{range_with_len}
use Rattle.spares_input.specs.declared.rows.PartId.{PartId}
use Rattle.fleet_model.specs.Fleet.{family}
use Rattle.family_points.proofs.places.place_parts.Given as goal

abbrev pub invariant-loop-k : goal.invariant-loop-k
invariant-loop-k l = map (λ (p : PartId). p.0) l.parts.items ≡ flat_map (λ (k : ℕ). family l.case l.fn.line.0) (range_with_len 0 l._k)
