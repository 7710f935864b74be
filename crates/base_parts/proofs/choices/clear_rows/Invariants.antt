use Rattle.std.proofs.Common.{◌≡◌, ℕ, ◌<◌, ◌≤◌, [], get_or, length, map}
use Rattle.base_parts.proofs.choices.clear_rows.Given as goal

abbrev pub invariant-loop-n : goal.invariant-loop-n
invariant-loop-n l = record {
  long : l.n ≤ length l.rows.items;
  empty : (k : ℕ) → k < l.n → get_or (map (λ r. r.items) l.rows.items) k [] ≡ [];
}
