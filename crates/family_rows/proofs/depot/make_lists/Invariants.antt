use Rattle.std.proofs.Common.{◌≡◌, ◌≤◌, length}
use Rattle.family_rows.proofs.depot.make_lists.Given as goal

abbrev pub invariant-loop-place : goal.invariant-loop-place
invariant-loop-place l = record {
  made : length l.lists.items ≡ l._place;
  few : l._place ≤ l.count;
}
