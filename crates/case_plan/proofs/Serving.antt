-- Curves of a case's points are such as a plan takes.
use Rattle.std.proofs.Common.{◌≡◌, ℕ, suc, ◌<◌, ◌≤◌, List, [], ◌∷◌, length, map, get_or, sym, ap, ◌∙◌, subst, arith}
use Rattle.std.specs.List.{AllZip}
use Rattle.std.proofs.lemmas.List.{get_or-map, length-map}
use Rattle.hull.specs.declared.point.Point.{Point}
use Rattle.hull.specs.Curves.{Among, IsCurve, point_at}
use Rattle.hull.proofs.Public.{begins_cheapest, among_at, among_map, among_mapped}
use Rattle.spares_input.specs.Cases.{CaseRows, IsCase}
use Rattle.fleet_model.specs.Rows.{line_units}
use Rattle.family_points.specs.Vectors.{Pair, places, vector_of, limits, vectors}
use Rattle.family_points.specs.Points.{ScoreEnds, point_at_vector}
use Rattle.family_points.proofs.Public.{nothing_above}
use Rattle.step_walk.specs.Prefix.{curve_at, vertex_at, HaveShapes}
use Rattle.marginal_alloc.specs.Choice.{AreCurves}
use Rattle.fleet_model.specs.Aims.{weighted_backorders, IsHeldAllocation}
use Rattle.fleet_plan.specs.Families.{family_points, case_points}
use Rattle.fleet_plan.proofs.Public.{is_among, is_between, lines_are, vector_between}
use Rattle.case_plan.specs.Report.{AreFamilyCurves}

begins : (points curve : List Point) (w : Point) → IsCurve points curve → 0 < length curve → Among w points → w.cost ≡ 0 → (point_at curve 0).cost ≡ 0
begins points [] w h some a e = absurd (omega arith)
begins points (v ∷ rest) w h some a e = (let k = begins_cheapest points rest v w h a in omega (arith, k, e))

lows_in : (ends : ScoreEnds) (c : CaseRows) (held ls : List ℕ) (curves : List (List Point)) → AreCurves (map (family_points ends c held) ls) curves
    → AllZip (λ l curve. (v : Point) → Among v curve → AllZip (λ x y. x ≤ y) v.stocks (limits c l)) ls curves
lows_in ends c held [] [] a = tt
lows_in ends c held [] (x ∷ xs) a = absurd (let n = a.count in omega (arith, n))
lows_in ends c held (l ∷ ls) [] a = absurd (let n = a.count in omega (arith, n))
lows_in ends c held (l ∷ ls) (x ∷ xs) a =
    let own : IsCurve (family_points ends c held l) x = a.each 0 (omega arith) in (
      (λ v b.
          let m = among_mapped (point_at_vector c l ends (vector_of c l held)) (vectors (vector_of c l held) (limits c l)) v (own.among v b) in
          subst (λ z. AllZip (λ x y. x ≤ y) z (limits c l)) (sym (ap (λ (z : Point). z.stocks) m.is)) (is_between (vector_of c l held) (limits c l) m.from m.there).most),
      lows_in ends c held ls xs (record { count = (let n = a.count in omega (arith, n)); each = λ f h. a.each (suc f) (omega (arith, h)) }),
    )

-- curves of a case's points from what is held are such as a plan takes
pub curves_serve : (ends : ScoreEnds) (c : CaseRows) (held : List ℕ) (curves : List (List Point)) → IsCase c → IsHeldAllocation c held held → HaveShapes curves
    → AreCurves (case_points ends c held) curves → AreFamilyCurves c curves
curves_serve ends c held curves valid h shapes a = record {
  count = sym (sym (length-map (line_units c) (family_points ends c held)) ∙ a.count);
  free = λ f b. free f b;
  vectors = lows_in ends c held (line_units c) curves a;
}
  where
    free : (f : ℕ) → f < length curves → (vertex_at curves f 0).cost ≡ 0
    free f b =
        let n = length-map (line_units c) (family_points ends c held) in
        let k = a.count in
        let within : f < length (line_units c) = omega (arith, n, k, b) in
        let l = get_or (line_units c) f 0 in
        let line = lines_are c valid (get_or (line_units c) f 0) (among_at (line_units c) f 0 within) in
        let own : IsCurve (family_points ends c held (get_or (line_units c) f 0)) (curve_at curves f) =
        subst (λ z. IsCurve z (curve_at curves f)) (get_or-map (family_points ends c held) (line_units c) f 0 [] within) (a.each f b) in
        begins (family_points ends c held (get_or (line_units c) f 0)) (curve_at curves f)
        (point_at_vector c (get_or (line_units c) f 0) ends (vector_of c (get_or (line_units c) f 0) held) (vector_of c (get_or (line_units c) f 0) held)) own (shapes f b).some
        (among_map (point_at_vector c (get_or (line_units c) f 0) ends (vector_of c (get_or (line_units c) f 0) held)) (vectors (vector_of c (get_or (line_units c) f 0) held) (limits c (get_or (line_units c) f 0)))
        (vector_of c (get_or (line_units c) f 0) held)
        (is_among (vector_of c (get_or (line_units c) f 0) held) (limits c (get_or (line_units c) f 0)) (vector_of c (get_or (line_units c) f 0) held)
        (vector_between ends weighted_backorders c held valid held (get_or (line_units c) f 0) line h)))
        (nothing_above c (map (λ (x : Pair). x.part) (places c (get_or (line_units c) f 0))) (vector_of c (get_or (line_units c) f 0) held))
