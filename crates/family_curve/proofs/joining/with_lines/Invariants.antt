use Rattle.std.proofs.Common.{◌≡◌, ◌+◌, ◌*◌, ◌<◌, ◌≤◌, ◌∷◌, ◌++◌, drop, flat_map, length}
use Rattle.std.specs.List.{range_with_len}
use Rattle.hull.specs.Curves.{IsCurve}
use Rattle.family_points.specs.Separation.{depot_points}
use Rattle.family_points.specs.Inputs.{line_high, vertex_count}
use Rattle.family_bases.specs.Joining.{HaveWidthOf, IsDepotPoint, run_start, vertices_of}
use Rattle.family_curve.specs.Work.{HaveChains}
use Rattle.family_curve.proofs.joining.with_lines.Given as goal

abbrev pub invariant-loop-n : goal.invariant-loop-n
invariant-loop-n g l = record {
  few : length l.curve ≤ length (vertices_of l.fn.so_far) + l.n * vertex_count l.sources.family.now;
  curve : IsCurve (vertices_of l.fn.so_far ++ flat_map (λ s. depot_points g.S.Score.ends l.sources.family.now (s ∷ l.shops)) (range_with_len (run_start l.start (line_high l.sources.family.now 0) l.n) l.n)) l.curve;
  work : HaveChains l.sources.bases.items l.work;
  widths : HaveWidthOf l.sources.family.now l.curve;
  point : IsDepotPoint l.sources.family.now l.first;
  some : 0 < length l.first.stocks;
  shops : drop 1 l.first.stocks ≡ l.shops;
}
