-- Families have curves, and the parts of families are parts of these.
use Rattle.std.proofs.Common.{ℕ, zero, suc, ◌<◌, List, [], ◌∷◌, length, refl, arith}
use Rattle.hull.specs.declared.point.Point.{Point}
use Rattle.hull.specs.Curves.{IsCurve}
use Rattle.hull.proofs.Public.{convex}
use Rattle.step_walk.specs.Prefix.{HaveShapes, curve_at}
use Rattle.step_walk.proofs.Public.{rises_at}
use Rattle.marginal_alloc.specs.Choice.{AreCurves}
use Rattle.curve_parts.proofs.Public.{curve_some, has_curve, part_is_cut}
use Rattle.choice_parts.specs.Parts.{AreFamilies}
use Rattle.choice_parts.specs.Laws.{CurvesExist, PartsAreOfCurves}
use Rattle.choice_parts.proofs.Placing.{HasPlaces, places}

more_curves : (x c : List Point) (xs cs : List (List Point)) → IsCurve x c → AreCurves xs cs → AreCurves (x ∷ xs) (c ∷ cs)
more_curves x c xs cs here rest = record { count = (let n = rest.count in omega (arith, n)); each = each }
  where
    each : (f : ℕ) → f < length (c ∷ cs) → IsCurve (curve_at (x ∷ xs) f) (curve_at (c ∷ cs) f)
    each zero b = here
    each (suc f) b = rest.each f (omega (arith, b))

-- every list of points has a curve
pub curves_of : (families : List (List Point)) → (curves : List (List Point)) × AreCurves families curves
curves_of [] = ([], record { count = refl; each = λ f b. absurd (omega (arith, b)) })
curves_of (x ∷ xs) =
    let c = has_curve x in
    let rest = curves_of xs in
    (c.0 ∷ rest.0, more_curves x c.0 xs rest.0 c.1 rest.1)

-- curves of families are in shape
pub in_shape : (families curves : List (List Point)) → AreFamilies families → AreCurves families curves → HaveShapes curves
in_shape families curves are areas f b =
    let n = areas.count in
    let c = areas.each f b in
    record {
      some = curve_some (curve_at families f) (curve_at curves f) (are.some f (omega (arith, n, b))) c;
      chain = convex (curve_at families f) (curve_at curves f) c;
      ranges = λ v m. are.ranges f v (c.among v m);
    }

-- families have curves, which are in shape
pub curves_exist : CurvesExist
curves_exist families are =
    let c = curves_of families in
    (c.0, c.1, in_shape families c.0 are c.1)

-- parts of families are parts of their curves
pub parts_of_curves : PartsAreOfCurves
parts_of_curves low high families curves parts are window of areas =
    let n = areas.count in
    let m = of.count in
    let shapes = in_shape families curves are areas in
    let p : HasPlaces low high curves parts = places low high curves parts (omega (arith, n, m)) (λ f b.
    part_is_cut low high (curve_at families f) (curve_at curves f) (curve_at parts f) (are.tell f (omega (arith, n, b))) (are.some f (omega (arith, n, b)))
    window (areas.each f b) (of.each f (omega (arith, n, m, b)))) in (
      p.froms,
      record {
        order = window.order;
        rises = λ f k s. rises_at curves f k (shapes f s.family).chain s;
        count = omega (arith, n, m);
        froms_count = p.count;
        within = λ f b. (p.each f b).within;
        same = λ f k b h. (p.each f b).same k h;
        before = λ f k s l. (p.each f s.family).before k s.place l;
        behind = λ f k s l. (p.each f s.family).behind k s.place l;
        steeper = λ f k s a l. (p.each f s.family).steeper k s.place a l;
        flatter = λ f k s a l. (p.each f s.family).flatter k s.place a l;
      },
    )
