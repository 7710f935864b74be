use Rattle.std.proofs.Common.{◌≡◌, ℕ, ◌<◌, [], get_or, length, map}
use Rattle.family_points.specs.declared.order.Choice.{Choice}
use Rattle.base_parts.proofs.choices.first_kept.Given as goal

abbrev pub invariant-loop-n : goal.invariant-loop-n
invariant-loop-n l = (k : ℕ) (v : Choice) → k < l.n → v ≡ get_or l.here.base.now.order.items k v → length (get_or (map (λ r. r.items) l.rows) v.shops []) ≡ 0
