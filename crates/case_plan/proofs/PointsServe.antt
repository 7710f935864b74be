-- The points of a case's families are such as a plan by parts takes.
use Rattle.std.proofs.Common.{ℕ, zero, suc, ◌<◌, ◌≤◌, inl, inr, List, [], ◌∷◌, length, map, refl, sym, ap, subst, arith}
use Rattle.std.specs.List.{AllZip}
use Rattle.hull.specs.declared.point.Point.{Point}
use Rattle.hull.specs.Curves.{Among, InRange}
use Rattle.hull.specs.Scores.{LeavesRoom}
use Rattle.hull.proofs.Public.{among_map, among_mapped}
use Rattle.spares_input.specs.Cases.{CaseRows}
use Rattle.fleet_model.specs.Rows.{line_units}
use Rattle.fleet_model.specs.Aims.{weighted_backorders, IsHeldAllocation}
use Rattle.family_items.specs.Inputs.{IsLine}
use Rattle.family_points.specs.Vectors.{limits, vector_of, vectors}
use Rattle.family_points.specs.Points.{ScoreEnds, point_at_vector}
use Rattle.step_walk.specs.Prefix.{curve_at}
use Rattle.choice_parts.specs.Parts.{AreFamilies}
use Rattle.fleet_plan.specs.Families.{case_points, family_points}
use Rattle.fleet_plan.specs.Laws.{IsAcceptedCase}
use Rattle.fleet_plan.proofs.Public.{vector_between, is_among, is_between, lines_are, point_range, stocks_tell_all}
use Rattle.case_plan.specs.Report.{HaveVectors}

some_of : (xs : List Point) (v : Point) → Among v xs → 0 < length xs
some_of [] v m = absurd m
some_of (x ∷ xs) v m = omega arith

vectors_in : (ends : ScoreEnds) (c : CaseRows) (held ls : List ℕ)
    → AllZip (λ l points. (v : Point) → Among v points → AllZip (λ x y. x ≤ y) v.stocks (limits c l)) ls (map (family_points ends c held) ls)
vectors_in ends c held [] = tt
vectors_in ends c held (l ∷ ls) = (
  (λ v b.
      let m = among_mapped (point_at_vector c l ends (vector_of c l held)) (vectors (vector_of c l held) (limits c l)) v b in
      subst (λ z. AllZip (λ x y. x ≤ y) z (limits c l)) (sym (ap (λ (z : Point). z.stocks) m.is)) (is_between (vector_of c l held) (limits c l) m.from m.there).most),
  vectors_in ends c held ls,
)

-- the points of a case have vectors of its families within the limits
pub points_have_vectors : (ends : ScoreEnds) (c : CaseRows) (held : List ℕ) → HaveVectors c (case_points ends c held)
points_have_vectors ends c held = vectors_in ends c held (line_units c)

module _ (ends : ScoreEnds) (c : CaseRows) (held : List ℕ) (accepted : IsAcceptedCase c) (room : LeavesRoom ends) where
  some_in : (ls : List ℕ) → ((l : ℕ) → Among l ls → IsLine c l) → IsHeldAllocation c held held → (f : ℕ) → f < length (map (family_points ends c held) ls) → 0 < length (curve_at (map (family_points ends c held) ls) f)
  some_in [] lines h f b = absurd (omega (arith, b))
  some_in (l ∷ ls) lines h zero b =
      some_of (family_points ends c held l) (point_at_vector c l ends (vector_of c l held) (vector_of c l held))
      (among_map (point_at_vector c l ends (vector_of c l held)) (vectors (vector_of c l held) (limits c l)) (vector_of c l held)
      (is_among (vector_of c l held) (limits c l) (vector_of c l held) (vector_between ends weighted_backorders c held accepted.valid held l (lines l (inl refl)) h)))
  some_in (l ∷ ls) lines h (suc f) b = some_in ls (λ m a. lines m (inr a)) h f (omega (arith, b))

  ranges_in : (ls : List ℕ) → ((l : ℕ) → Among l ls → IsLine c l) → (f : ℕ) (v : Point) → Among v (curve_at (map (family_points ends c held) ls) f) → InRange v
  ranges_in [] lines f v m = absurd m
  ranges_in (l ∷ ls) lines zero v m = point_range c accepted l (lines l (inl refl)) ends held v room m
  ranges_in (l ∷ ls) lines (suc f) v m = ranges_in ls (λ k a. lines k (inr a)) f v m

  -- and each family has points in range, which their stocks tell apart
  pub points_are_families : IsHeldAllocation c held held → AreFamilies (case_points ends c held)
  points_are_families h = record {
    some = some_in (line_units c) (lines_are c accepted.valid) h;
    tell = stocks_tell_all ends c held;
    ranges = ranges_in (line_units c) (lines_are c accepted.valid);
  }
