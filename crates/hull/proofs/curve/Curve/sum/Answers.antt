use Rattle.std.proofs.Common.{◌≡◌, ◌+◌, ◌≤◌, List, length, sym, ap, ◌∙◌, subst, arith, vec_len, length-append}
use Rattle.std.proofs.lemmas.Result.{IfOk-weaker}
use Rattle.hull.specs.declared.point.Point.{Point}
use Rattle.hull.specs.Curves.{Among, StandFor, InRange, IsCurve, IsShape, plus, sums}
use Rattle.hull.proofs.Stand.{stand_for}
use Rattle.hull.proofs.Sums.{Parts, parts_of}
use Rattle.hull.proofs.curve.Curve.sum.Goals as goal

pub path-requires-clause-a_ranges : goal.path-requires-clause-a_ranges
path-requires-clause-a_ranges c = λ v m. c.a.invariant.ranges v (subst (λ l. Among v l) c.as_slice.ensures.value m)

pub path-requires-clause-b_ranges : goal.path-requires-clause-b_ranges
path-requires-clause-b_ranges c = λ v m. c.b.invariant.ranges v (subst (λ l. Among v l) c.as_slice-2.ensures.value m)

pub path-requires-clause-ranges : goal.path-requires-clause-ranges
path-requires-clause-ranges c = λ v w m n. c.requires.ranges v w (subst (λ l. Among v l) (c.as_slice.ensures.value ∙ c.a.view_is) m) (subst (λ l. Among w l) (c.as_slice-2.ensures.value ∙ c.b.view_is) n)

-- each sum is in range, and as wide as the others
sum_range : (a b : List Point) → ((v w : Point) → Among v a → Among w b → InRange (plus v w)) → (s : Point) → Among s (sums a b) → InRange s
sum_range a b h s m = let r : Parts a b s = parts_of a b s m in subst InRange (sym r.is) (h r.first r.second r.first_in r.second_in)

sum_width : (a b : List Point) → IsShape a → IsShape b → (s t : Point) → Among s (sums a b) → Among t (sums a b) → length s.stocks ≡ length t.stocks
sum_width a b sa sb s t m n =
    let r : Parts a b s = parts_of a b s m in
    let q : Parts a b t = parts_of a b t n in
    let x = sa.widths r.first q.first r.first_in q.first_in in
    let y = sb.widths r.second q.second r.second_in q.second_in in
    let e : length s.stocks ≡ length r.first.stocks + length r.second.stocks = ap (λ z. length z.stocks) r.is ∙ length-append r.first.stocks r.second.stocks in
    let f : length t.stocks ≡ length q.first.stocks + length q.second.stocks = ap (λ z. length z.stocks) q.is ∙ length-append q.first.stocks q.second.stocks in
    omega (arith, x, y, e, f)

pub of-requires-clause-few : goal.of-requires-clause-few
of-requires-clause-few c =
    let lx : length c.as_slice.result.now ≡ length c.args.a.now = ap length (c.as_slice.ensures.value ∙ c.a.view_is) in
    let ly : length c.as_slice-2.result.now ≡ length c.args.b.now = ap length (c.as_slice-2.ensures.value ∙ c.b.view_is) in
    let l = c.in_ok-points.ensures.few in
    let few = c.requires.few in
    let e : vec_len c.in_ok-points.points ≡ length c.in_ok-points.points.items = c.in_ok-points.points.ok.0 in
    omega (arith, l, few, lx, ly, e)

pub of-requires-clause-ranges : goal.of-requires-clause-ranges
of-requires-clause-ranges c = λ v m.
    let x = c.as_slice.result.now in
    let y = c.as_slice-2.result.now in
    sum_range x y (λ v w m n. c.requires.ranges v w (subst (λ l. Among v l) (c.as_slice.ensures.value ∙ c.a.view_is) m) (subst (λ l. Among w l) (c.as_slice-2.ensures.value ∙ c.b.view_is) n))
    v (c.in_ok-points.ensures.stands.among v m)

pub of-requires-clause-widths : goal.of-requires-clause-widths
of-requires-clause-widths c = λ v w m n.
    let x = c.as_slice.result.now in
    let y = c.as_slice-2.result.now in
    let stands = c.in_ok-points.ensures.stands in
    sum_width x y (subst IsShape (sym c.as_slice.ensures.value) c.a.invariant) (subst IsShape (sym c.as_slice-2.ensures.value) c.b.invariant) v w (stands.among v m) (stands.among w n)

pub returns-clause-curve : goal.returns-clause-curve
returns-clause-curve c =
    let x = c.as_slice.result.now in
    let y = c.as_slice-2.result.now in
    let points = c.in_ok-points.points.items in
    let stands : StandFor (sums c.args.a.now c.args.b.now) points =
    subst (λ l. StandFor (sums l c.args.b.now) points) (c.as_slice.ensures.value ∙ c.a.view_is)
    (subst (λ l. StandFor (sums x l) points) (c.as_slice-2.ensures.value ∙ c.b.view_is) c.in_ok-points.ensures.stands) in
    IfOk-weaker c.of.result (IsCurve points) (IsCurve (sums c.args.a.now c.args.b.now)) (λ made. stand_for (sums c.args.a.now c.args.b.now) points made stands) c.of.ensures.curve

pub returns-clause-few : goal.returns-clause-few
returns-clause-few c =
    let lx : length c.as_slice.result.now ≡ length c.args.a.now = ap length (c.as_slice.ensures.value ∙ c.a.view_is) in
    let ly : length c.as_slice-2.result.now ≡ length c.args.b.now = ap length (c.as_slice-2.ensures.value ∙ c.b.view_is) in
    let l = c.in_ok-points.ensures.few in
    let e : vec_len c.in_ok-points.points ≡ length c.in_ok-points.points.items = c.in_ok-points.points.ok.0 in
    let least : length c.in_ok-points.points.items ≤ length c.args.a.now + length c.args.b.now = omega (arith, l, lx, ly, e) in
    IfOk-weaker c.of.result _ _ (λ (made : List Point) (m : length made ≤ length c.in_ok-points.points.items). omega (arith, least, m)) c.of.ensures.few
