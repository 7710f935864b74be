-- What is read stands in the list.
use Rattle.std.proofs.Common.{◌≡◌, ℕ, ◌<◌, ◌≤◌, List, ◌∙◌, ap, get_or, length, sym, subst, arith, vec_len}
use borrow.Author.Count.{below_more}
use Rattle.hull.specs.declared.point.Point.{Point}
use Rattle.hull.specs.Curves.{IsBestAt, IsCurve, IsLeastAt, lagrangian, nowhere, point_at}
use Rattle.hull.proofs.Runs.{among_read, least_at_places, same_default}
use Rattle.hull.proofs.Stops.{least_of_all}
use Rattle.hull.proofs.curve.Curve.best_at.Goals.{then-value-least, else-value-least}
use Rattle.hull.proofs.curve.Curve.best_at.Goals as goal

not_below : (j : ℕ) → j < 0 → ⊥
not_below j less = omega arith

lower : (x y z w : ℕ) → x ≡ y → y < z → z ≤ w → x < w
lower x y z w e l m = omega arith

no_higher : (x y z w : ℕ) → x ≡ y → y < z → z ≤ w → x ≤ w
no_higher x y z w e l m = omega arith

no_more : (x y z : ℕ) → x ≡ y → y ≡ z → x ≤ z
no_more x y z e f = omega arith

-- what is read at a place is the point there
read_at : (items : List Point) (k : ℕ) (v : Point) → k < length items → v ≡ get_or items k v → v ≡ point_at items k
read_at items k v within is = is ∙ same_default items k v nowhere within

-- the first point is the least of the first alone
at_first : (p q : ℕ) (items : List Point) (least j : ℕ) → least ≡ lagrangian p q (point_at items 0) → j < 1 → least ≤ lagrangian p q (point_at items j)
at_first p q items least j is less =
    let zero_is : j ≡ 0 = omega (arith, less) in
    subst (λ k. least ≤ lagrangian p q (point_at items k)) (sym zero_is) (subst (λ x. least ≤ x) is (omega arith))

pub lagrangian_at-least-requires-clause-range : goal.lagrangian_at-least-requires-clause-range
lagrangian_at-least-requires-clause-range c =
    c.self.invariant.ranges c.index.result.now (among_read c.self.inside.vertices.items 0 c.index.result.now c.self.invariant.some c.index.ensures)

pub lagrangian_at-value-requires-clause-range : goal.lagrangian_at-value-requires-clause-range
lagrangian_at-value-requires-clause-range c =
    let n : vec_len c.self.inside.vertices ≡ length c.self.inside.vertices.items = c.self.inside.vertices.ok.0 in
    c.self.invariant.ranges c.index-in-loop-k.result.now (among_read c.self.inside.vertices.items c.loop-k.k c.index-in-loop-k.result.now (omega arith) c.index-in-loop-k.ensures)

pub returns-clause-reaches : goal.returns-clause-reaches
returns-clause-reaches c = λ points curve positive.
    let items = c.self.inside.vertices.items in
    let n : vec_len c.self.inside.vertices ≡ length items = c.self.inside.vertices.ok.0 in
    let best : IsLeastAt c.args.p c.args.q items (point_at items c.loop-k.best) = least_at_places c.args.p c.args.q items (point_at items c.loop-k.best) (λ k below.
    let least = c.loop-k.invariant.least k (omega arith) in let is = c.loop-k.invariant.is in omega (arith, is, least)) in
    subst (λ vertices. IsLeastAt c.args.p c.args.q points (point_at vertices c.loop-k.best)) c.self.view_is
    (least_of_all c.args.p c.args.q points items positive (subst (λ vertices. IsCurve points vertices) (sym c.self.view_is) curve) (point_at items c.loop-k.best) best)

pub loop-k-init : goal.loop-k-init
loop-k-init c =
    let items = c.self.inside.vertices.items in
    let is = c.lagrangian_at-least.ensures ∙ ap (lagrangian c.args.p c.args.q) (read_at items 0 c.index.result.now c.self.invariant.some c.index.ensures) in
    record {
      below = omega arith;
      is = is;
      before = λ j less. absurd (not_below j less);
      least = λ j less. at_first c.args.p c.args.q items c.lagrangian_at-least.result j is less;
    }

pub loop-k-preserved : goal.loop-k-preserved
loop-k-preserved c =
    let items = c.self.inside.vertices.items in
    let n : vec_len c.self.inside.vertices ≡ length items = c.self.inside.vertices.ok.0 in
    let within : c.loop-k.k < length items = omega (arith, n, c.loop-k-test.true, c.len-k-end.ensures) in
    let i = c.loop-k.invariant in
    let value = c.lagrangian_at-value.ensures ∙ ap (lagrangian c.args.p c.args.q) (read_at items c.loop-k.k c.index-in-loop-k.result.now within c.index-in-loop-k.ensures) in
    elim c.if-value-least.branch [
      | then-value-least w ↦ record {
        below = omega (arith, w.best-is);
        is = w.least-is ∙ value ∙ ap (λ j. lagrangian c.args.p c.args.q (point_at items j)) (sym w.best-is);
        before = λ j less. lower _ _ _ _ w.least-is w.if-value-least.true (i.least j (subst (λ n. j < n) w.best-is less));
        least = below_more (λ j. c.if-value-least.least ≤ lagrangian c.args.p c.args.q (point_at items j)) c.loop-k.k
            (λ j less. no_higher _ _ _ _ w.least-is w.if-value-least.true (i.least j less)) (no_more _ _ _ w.least-is value);
      }
      | else-value-least w ↦ record {
        below = omega (arith, w.best-is, i.below);
        is = w.least-is ∙ i.is ∙ ap (λ j. lagrangian c.args.p c.args.q (point_at items j)) (sym w.best-is);
        before = λ j less. subst (λ x. x < lagrangian c.args.p c.args.q (point_at items j)) (sym w.least-is) (i.before j (subst (λ n. j < n) w.best-is less));
        least = below_more (λ j. c.if-value-least.least ≤ lagrangian c.args.p c.args.q (point_at items j)) c.loop-k.k
            (λ j less. subst (λ x. x ≤ lagrangian c.args.p c.args.q (point_at items j)) (sym w.least-is) (i.least j less))
            (subst (λ x. c.if-value-least.least ≤ x) value (subst (λ x. x ≤ c.lagrangian_at-value.result) (sym w.least-is) w.if-value-least.false));
      }
    ]

pub overflow_cast-result : goal.overflow_cast-result
overflow_cast-result c =
    let n : vec_len c.self.inside.vertices ≡ length c.self.inside.vertices.items = c.self.inside.vertices.ok.0 in
    let some : 1 ≤ c.len-k-end.result = omega (arith, n, c.len-k-end.ensures, c.self.invariant.some) in
    omega (arith, n, c.len-k-end.ensures, c.loop-k.invariant.below, c.loop-k.auto.k-end some, c.self.invariant.few)

pub returns-clause-first : goal.returns-clause-first
returns-clause-first c =
    let items = c.self.inside.vertices.items in
    let n : vec_len c.self.inside.vertices ≡ length items = c.self.inside.vertices.ok.0 in
    let some : 1 ≤ c.len-k-end.result = omega (arith, n, c.len-k-end.ensures, c.self.invariant.some) in
    let ends : c.loop-k.k ≡ length items = omega (arith, n, c.len-k-end.ensures, c.loop-k-test.false, c.loop-k.auto.k-end some) in
    let i = c.loop-k.invariant in
    subst (λ vertices. IsBestAt c.args.p c.args.q vertices c.loop-k.best) c.self.view_is (record {
      below = subst (λ m. c.loop-k.best < m) ends i.below;
      before = λ k less. subst (λ x. x < lagrangian c.args.p c.args.q (point_at items k)) i.is (i.before k less);
      least = λ k less. subst (λ x. x ≤ lagrangian c.args.p c.args.q (point_at items k)) i.is (i.least k (subst (λ m. k < m) (sym ends) less));
    })
