use Rattle.std.proofs.Common.{◌≡◌, ◌≤◌, ◌++◌, drop, length, map, Some, vec_capacity, vec_len}
use Rattle.session_plans.proofs.values.all_taken.Given as goal

abbrev pub invariant-loop-k : goal.invariant-loop-k
invariant-loop-k g l = record {
  moved : map Some l.values.items ++ drop l.k l.kept ≡ l.fn.kept;
  count : vec_len l.values ≡ l.k;
  room : length l.kept ≤ vec_capacity l.values;
}
