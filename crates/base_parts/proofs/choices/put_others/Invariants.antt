use Rattle.std.proofs.Common.{◌≡◌, ℕ, ◌<◌, [], get_or, length, map, IsFalse}
use Rattle.base_parts.specs.Choices.{AreKept, IsSettled}
use Rattle.base_parts.proofs.choices.put_others.Given as goal

abbrev pub invariant-loop-n : goal.invariant-loop-n
invariant-loop-n l = record {
  long : length l.rows.items ≡ length l.fn.rows.items;
  rows : AreKept l.here (map (λ r. r.items) l.rows.items);
  grown : (k : ℕ) → 0 < length (get_or (map (λ r. r.items) l.fn.rows.items) k []) → 0 < length (get_or (map (λ r. r.items) l.rows.items) k []);
  settled : (k : ℕ) → k < l.n → IsSettled l.low l.high l.chain (map (λ r. r.items) l.rows.items) l.lows l.others.passed k;
  same : IsFalse l.others.more → l.rows.items ≡ l.fn.rows.items;
}
