use Rattle.std.proofs.Common.{◌≡◌, ℕ, ◌+◌, ◌<◌, ◌≤◌, get_or, length}
use Rattle.backorder_bounds.specs.Places.{low_end}
use Rattle.family_points.specs.Inputs.{line_low}
use Rattle.family_bases.specs.Lows.{line_place}
use Rattle.family_curve.proofs.low_curve.put_low_row.Given as goal

abbrev pub invariant-loop-s : goal.invariant-loop-s
invariant-loop-s l = record {
  walk : l.walk ≡ line_place l.here.family.now l.here.depot.now l.here.site.0 l.shops l._s;
  long : length l.row.items + line_low l.here.family.now l.here.site.0 ≡ l._s + 1;
  low : (i : ℕ) → i < length l.row.items
      → get_or l.row.items i 0 ≤ low_end 48 (line_place l.here.family.now l.here.depot.now l.here.site.0 l.shops (line_low l.here.family.now l.here.site.0 + i));
}
