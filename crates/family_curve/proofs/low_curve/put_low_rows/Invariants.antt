use Rattle.std.proofs.Common.{◌≤◌, length, map, take}
use Rattle.std.specs.List.{AllZip}
use Rattle.family_points.specs.Inputs.{shop_vectors}
use Rattle.family_curve.specs.LowCurves.{IsLowRow}
use Rattle.family_curve.proofs.low_curve.put_low_rows.Given as goal

abbrev pub invariant-loop-n : goal.invariant-loop-n
invariant-loop-n l = record {
  long : length (shop_vectors l.here.family.now l.here.site.0) ≤ length l.rows.items;
  rows : AllZip (IsLowRow l.here.family.now l.here.depot.now l.here.site.0) (take l.n (shop_vectors l.here.family.now l.here.site.0)) (map (λ r. r.items) (take l.n l.rows.items));
}
