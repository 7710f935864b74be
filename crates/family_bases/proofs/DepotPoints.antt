-- The points with given stocks at the depot.
use Rattle.std.proofs.Common.{ℕ, List, length, sym, ◌∙◌, arith}
use Rattle.hull.specs.declared.point.Point.{Point}
use Rattle.hull.specs.Curves.{Among, InRange}
use Rattle.hull.specs.Scores.{LeavesRoom}
use Rattle.family_points.specs.Inputs.{FamilyBox, IsAt, IsFamilyBox}
use Rattle.family_points.specs.Points.{ScoreEnds}
use Rattle.family_points.specs.Separation.{depot_points}
use Rattle.family_bases.specs.Joining.{HaveWidthOf}
use Rattle.family_points.proofs.Public.{low_long, depot_points_small, small_range, size}

module _ (x : FamilyBox) (valid : IsFamilyBox x) (ends : ScoreEnds) (room : LeavesRoom ends) (d : List ℕ) (at_depot : IsAt x 0 d) where
  -- the points with these stocks at the depot have a stock for each place of the family
  pub depot_widths : HaveWidthOf x (depot_points ends x d)
  depot_widths v m = (depot_points_small x valid ends room d at_depot v m).width ∙ sym (low_long x valid)

  -- the points with these stocks at the depot are in range
  pub depot_ranges : (v : Point) → Among v (depot_points ends x d) → InRange v
  depot_ranges v m =
      let some = valid.valid.frame.fewest_sites in
      let few = valid.valid.frame.most_sites in
      small_range (size x.case x.line) (length x.case.sites) v (omega (arith, some)) (omega (arith, few)) (depot_points_small x valid ends room d at_depot v m)
