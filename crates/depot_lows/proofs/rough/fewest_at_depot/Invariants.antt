use Rattle.std.proofs.Common.{ℕ, ◌*◌, ◌^◌, ◌<◌, ◌≤◌}
use Rattle.moment_table.specs.Rows.{at_stock}
use Rattle.family_points.specs.Inputs.{line_low}
use Rattle.depot_lows.proofs.rough.fewest_at_depot.Given as goal

abbrev pub invariant-loop-s : goal.invariant-loop-s
invariant-loop-s l = record {
  fewest : (k : ℕ) → line_low l.family 0 ≤ k → k < l.s → l.fewest ≤ (at_stock l.tables.line.rows k).ebo.lo;
  most : l.fewest ≤ 256 * 2 ^ 48;
}
