use Rattle.std.proofs.Common.{◌≡◌, ◌≤◌, ◌++◌, drop, length, map, Some, vec_len}
use Rattle.session_plans.proofs.values.put_back.Given as goal

abbrev pub invariant-loop-value : goal.invariant-loop-value
invariant-loop-value g l = record {
  moved : map Some l.values.items ++ drop (length l.values.items) l.kept ≡ map Some l.fn.values.items;
  within : length l.values.items ≤ length l.kept;
}

abbrev pub decreases-loop-value : goal.decreases-loop-value
decreases-loop-value g l = vec_len l.values
