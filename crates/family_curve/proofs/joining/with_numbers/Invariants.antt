use Rattle.std.proofs.Common.{◌+◌, ◌-◌, ◌*◌, ◌≤◌, ◌++◌, List, length}
use Rattle.hull.specs.declared.point.Point.{Point}
use Rattle.hull.specs.Curves.{IsCurve}
use Rattle.family_points.specs.Inputs.{line_stocks, vertex_count}
use Rattle.family_bases.specs.Joining.{HaveWidthOf}
use Rattle.family_curve.specs.Numbered.{numbered_points}
use Rattle.family_curve.specs.Work.{HaveChains}
use Rattle.family_curve.proofs.joining.with_numbers.Given as goal

abbrev pub invariant-loop-n : goal.invariant-loop-n
invariant-loop-n g l = record {
  begun : l.fn.from ≤ l.n;
  few : length l.curve ≤ length l.fn.so_far + (l.n - l.fn.from) * (length (line_stocks l.sources.family.now 0) * vertex_count l.sources.family.now);
  curve : (ps : List Point) → IsCurve ps l.fn.so_far
      → IsCurve (ps ++ numbered_points g.S.Score.ends l.sources.family.now l.fn.from (l.n - l.fn.from)) l.curve;
  work : HaveChains l.sources.bases.items l.work;
  widths : HaveWidthOf l.sources.family.now l.curve;
}
