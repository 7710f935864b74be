-- The curves of a case, family by family.
use Rattle.std.proofs.Common.{◌≡◌, ℕ, zero, suc, ◌<◌, ◌≤◌, List, [], ◌∷◌, length, map, refl, arith}
use Rattle.std.specs.List.{AllZip}
use Rattle.std.proofs.lemmas.List.{length-map}
use Rattle.hull.specs.declared.point.Point.{Point}
use Rattle.hull.specs.Curves.{Among, IsCurve}
use Rattle.spares_input.specs.Cases.{CaseRows}
use Rattle.fleet_model.specs.Rows.{line_units}
use Rattle.family_points.specs.Vectors.{limits}
use Rattle.family_points.specs.Points.{ScoreEnds}
use Rattle.step_walk.specs.Prefix.{curve_at, vertex_at}
use Rattle.marginal_alloc.specs.Choice.{AreCurves}
use Rattle.fleet_plan.specs.Families.{family_points, case_points}
use Rattle.held_work.specs.Curves.{IsFamilyCurve}
use Rattle.case_plan.specs.Report.{AreFamilyCurves}

-- ---- all families

are_curves_in : (ends : ScoreEnds) (c : CaseRows) (held ls : List ℕ) (curves : List (List Point)) → AllZip (IsFamilyCurve ends c held) ls curves → AreCurves (map (family_points ends c held) ls) curves
are_curves_in ends c held [] [] a = record { count = refl; each = λ f b. absurd (omega (arith, b)) }
are_curves_in ends c held [] (x ∷ xs) a = absurd a
are_curves_in ends c held (l ∷ ls) [] a = absurd a
are_curves_in ends c held (l ∷ ls) (x ∷ xs) a =
    let rest = are_curves_in ends c held ls xs a.1 in
    record { count = (let n = rest.count in omega (arith, n)); each = each rest }
  where
    each : AreCurves (map (family_points ends c held) ls) xs → (f : ℕ) → f < length (x ∷ xs) → IsCurve (curve_at (map (family_points ends c held) (l ∷ ls)) f) (curve_at (x ∷ xs) f)
    each rest zero b = a.0.is_curve
    each rest (suc f) b = rest.each f (omega (arith, b))

-- the curves of the families from what is held are the curves of the case's points
pub are_curves : (ends : ScoreEnds) (c : CaseRows) (held : List ℕ) (curves : List (List Point)) → AllZip (IsFamilyCurve ends c held) (line_units c) curves → AreCurves (case_points ends c held) curves
are_curves ends c held curves a = are_curves_in ends c held (line_units c) curves a

free_in : (ends : ScoreEnds) (c : CaseRows) (held ls : List ℕ) (curves : List (List Point)) → AllZip (IsFamilyCurve ends c held) ls curves → (f : ℕ) → f < length curves → (vertex_at curves f 0).cost ≡ 0
free_in ends c held [] [] a f b = absurd (omega (arith, b))
free_in ends c held [] (x ∷ xs) a f b = absurd a
free_in ends c held (l ∷ ls) [] a f b = absurd a
free_in ends c held (l ∷ ls) (x ∷ xs) a zero b = a.0.free
free_in ends c held (l ∷ ls) (x ∷ xs) a (suc f) b = free_in ends c held ls xs a.1 f (omega (arith, b))

within_in : (ends : ScoreEnds) (c : CaseRows) (held ls : List ℕ) (curves : List (List Point)) → AllZip (IsFamilyCurve ends c held) ls curves
    → AllZip (λ l curve. (v : Point) → Among v curve → AllZip (λ x y. x ≤ y) v.stocks (limits c l)) ls curves
within_in ends c held [] [] a = tt
within_in ends c held [] (x ∷ xs) a = absurd a
within_in ends c held (l ∷ ls) [] a = absurd a
within_in ends c held (l ∷ ls) (x ∷ xs) a = ((λ v m. (a.0.within v m).most), within_in ends c held ls xs a.1)

-- they are such as a plan takes: one for each line unit, from cost 0, within the limits
pub are_family_curves : (ends : ScoreEnds) (c : CaseRows) (held : List ℕ) (curves : List (List Point)) → AllZip (IsFamilyCurve ends c held) (line_units c) curves → AreFamilyCurves c curves
are_family_curves ends c held curves a = record {
  count = (let n = (are_curves ends c held curves a).count in omega (arith, n, length-map (line_units c) (family_points ends c held)));
  free = free_in ends c held (line_units c) curves a;
  vectors = within_in ends c held (line_units c) curves a;
}
