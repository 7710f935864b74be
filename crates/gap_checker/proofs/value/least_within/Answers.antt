use Rattle.std.proofs.Common.{◌*◌, ◌+◌, ◌^◌, ◌≤◌, ap, ◌∙◌, arith}
use Rattle.std.proofs.lemmas.Nat.{mul-le}
use Rattle.hull.specs.Curves.{InRange}
use Rattle.family_points.specs.Points.{points_within}
use Rattle.gap_rules.specs.Values.{least_within}
use Rattle.gap_checker.proofs.Leasts.{least_vertex, vertex_among}
use Rattle.gap_checker.proofs.value.least_within.Goals as goal

pub overflow_mul-result : goal.overflow_mul-result
overflow_mul-result g c =
    let v = c.point-vertex.result.now in
    let r : InRange v = c.invariant-2.ensures.shape.ranges v (vertex_among c.in_ok-curve.curve c.best_at.result v c.point-vertex.ensures c.best_at.ensures.first.below) in
    let e = r.ends in let h = r.hi in
    let q : c.from.result ≤ 1000000000000 = omega (arith, c.from.ensures, c.requires.most_money) in
    let lo : v.lo ≤ 2 ^ 74 = omega (arith, e, h) in
    let p : c.from.result * v.lo ≤ 1000000000000 * 2 ^ 74 = mul-le c.from.result v.lo 1000000000000 (2 ^ 74) q lo in
    omega (arith, p)

pub overflow_mul-result-2 : goal.overflow_mul-result-2
overflow_mul-result-2 g c =
    let v = c.point-vertex.result.now in
    let r : InRange v = c.invariant-2.ensures.shape.ranges v (vertex_among c.in_ok-curve.curve c.best_at.result v c.point-vertex.ensures c.best_at.ensures.first.below) in
    let k = r.cost in
    let cost : c.from-2.result ≤ 1000000000000 = omega (arith, c.from-2.ensures, k) in
    let p : c.args.price.p * c.from-2.result ≤ 2 ^ 74 * 1000000000000 = mul-le c.args.price.p c.from-2.result (2 ^ 74) 1000000000000 c.requires.price cost in
    omega (arith, p)

pub overflow_add-result : goal.overflow_add-result
overflow_add-result g c =
    let v = c.point-vertex.result.now in
    let r : InRange v = c.invariant-2.ensures.shape.ranges v (vertex_among c.in_ok-curve.curve c.best_at.result v c.point-vertex.ensures c.best_at.ensures.first.below) in
    let e = r.ends in let h = r.hi in let k = r.cost in
    let q : c.from.result ≤ 1000000000000 = omega (arith, c.from.ensures, c.requires.most_money) in
    let lo : v.lo ≤ 2 ^ 74 = omega (arith, e, h) in
    let cost : c.from-2.result ≤ 1000000000000 = omega (arith, c.from-2.ensures, k) in
    let p : c.from.result * v.lo ≤ 1000000000000 * 2 ^ 74 = mul-le c.from.result v.lo 1000000000000 (2 ^ 74) q lo in
    let m : c.args.price.p * c.from-2.result ≤ 2 ^ 74 * 1000000000000 = mul-le c.args.price.p c.from-2.result (2 ^ 74) 1000000000000 c.requires.price cost in
    omega (arith, p, m)

pub returns : goal.returns
unfolding least_within
returns g c =
    let v = c.point-vertex.result.now in
    let box = c.args.bounds.now in
    let is_curve = rw c.case.ensures at c.in_ok-curve.ensures.curve in
    ap (λ z. z * v.lo + c.args.price.p * c.from-2.result) c.from.ensures
    ∙ ap (λ z. c.args.price.q * v.lo + c.args.price.p * z) c.from-2.ensures
    ∙ least_vertex c.args.price.p c.args.price.q (points_within c.args.rated.now.case c.args.line.0 g.S.Score.ends box.held box.low box.high) c.in_ok-curve.curve c.best_at.result v
    is_curve c.point-vertex.ensures c.best_at.ensures.first.below (c.best_at.ensures.reaches _ is_curve c.requires.money)
