use Rattle.std.proofs.Common.{◌≤◌, vec_len}
use Rattle.family_curve.proofs.low_curve.make_rows.Given as goal

abbrev pub invariant-loop-place : goal.invariant-loop-place
invariant-loop-place l = l._place ≤ vec_len l.rows
