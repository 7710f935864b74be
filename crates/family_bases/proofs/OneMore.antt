-- The sums of the bases' curves, one base more at a time.
use Rattle.std.proofs.Common.{◌≡◌, ℕ, suc, ◌+◌, ◌-◌, List, [], ◌∷◌, ◌++◌, length, sum_by, sym, ap, ◌∙◌, subst, arith}
use Rattle.std.specs.List.{range_with_len}
use Rattle.std.proofs.lemmas.List.Sums.{sum_by-append, sum_by-cons}
use Rattle.fleet_model.specs.Laws.{IsBase}
use Rattle.hull.specs.declared.point.Point.{Point}
use Rattle.hull.specs.Curves.{HaveOneWidth, IsCurve, StandFor, sums}
use Rattle.hull.specs.Scores.{LeavesRoom}
use Rattle.hull.proofs.Public.{curve_stands, stand_for_sums}
use Rattle.family_points.specs.Inputs.{FamilyBox, IsAt, IsFamilyBox}
use Rattle.family_points.specs.Points.{ScoreEnds}
use Rattle.family_points.specs.Separation.{base_points, points_over}
use Rattle.sum_walk.specs.Sums.{sums_of_each}
use Rattle.family_points.proofs.Public.{over_more, over_small}
use Rattle.sum_walk.proofs.Public.{sums_one_more}

-- with one list more, the lengths of all come to that list's length more
pub lengths_one_more : (ls : List (List Point)) (l : List Point) → sum_by length (ls ++ l ∷ []) ≡ sum_by length ls + length l
lengths_one_more ls l = omega (arith, sum_by-append length ls (l ∷ []), sum_by-cons length l [])

module _ (x : FamilyBox) (valid : IsFamilyBox x) (ends : ScoreEnds) (room : LeavesRoom ends) (d : List ℕ) (at_depot : IsAt x 0 d) where
  abbrev pub over : ℕ → List Point
  over n = points_over ends x d (range_with_len 1 n)

  -- with the curve of one base more, the sums stand for the points over one base more
  pub base_more : (first : Point) (j : ℕ) (curves made : List (List Point)) (base : List Point) → IsBase x.case j
      → StandFor (over (j - 1)) (sums_of_each (first ∷ []) curves)
      → IsCurve (base_points ends x d j) base
      → made ≡ curves ++ base ∷ []
      → StandFor (over (j + 1 - 1)) (sums_of_each (first ∷ []) made)
  base_more first j curves made base on s b made_is =
      let next : suc (j - 1) ≡ j + 1 - 1 = omega (arith, on.0) in
      let here : j - 1 + 1 ≡ j = omega (arith, on.0) in
      let width : HaveOneWidth (over (j - 1)) = λ v w m n. (over_small x valid ends room d at_depot (j - 1) (omega (arith, on.0, on.1)) v m).width
      ∙ sym (over_small x valid ends room d at_depot (j - 1) (omega (arith, on.0, on.1)) w n).width in
      let both : StandFor (sums (over (j - 1)) (base_points ends x d j)) (sums (sums_of_each (first ∷ []) curves) base) =
      stand_for_sums (over (j - 1)) (base_points ends x d j) (sums_of_each (first ∷ []) curves) base s
      (curve_stands (base_points ends x d j) base b) width in
      let more : over (suc (j - 1)) ≡ sums (over (j - 1)) (base_points ends x d j) =
      over_more ends x d (j - 1) ∙ ap (λ k. sums (over (j - 1)) (base_points ends x d k)) here in
      subst (λ n. StandFor (over n) (sums_of_each (first ∷ []) made)) next
      (subst (λ ps. StandFor ps (sums_of_each (first ∷ []) made)) (sym more)
      (subst (λ ls. StandFor (sums (over (j - 1)) (base_points ends x d j)) (sums_of_each (first ∷ []) ls)) (sym made_is)
      (subst (StandFor (sums (over (j - 1)) (base_points ends x d j))) (sym (sums_one_more curves (first ∷ []) base)) both)))
