-- The point of a box of one vector, and the sum of the upper ends.
use Rattle.std.proofs.Common.{◌≡◌, ℕ, zero, suc, ◌+◌, ◌<◌, List, [], ◌∷◌, map, length, drop, get_or, refl, sym, ap, ap₂, ◌∙◌, subst, arith}
use Rattle.std.specs.Prelude.{Result, Ok, Err, IfOk}
use Rattle.answers.specs.declared.stop.NoMemory.{NoMemory}
use Rattle.family_points.specs.declared.bounds.Bounds.{Bounds}
use Rattle.hull.specs.declared.point.Point.{Point}
use Rattle.hull.specs.Curves.{Among}
use Rattle.hull.proofs.Public.{Mapped, among_mapped}
use Rattle.spares_input.specs.Cases.{CaseRows}
use Rattle.price_bounds.specs.Sums.{hi_of}
use Rattle.gap_rules.specs.Boxes.{AtMost, IsOrdered}
use Rattle.family_points.specs.Vectors.{vectors, limits}
use Rattle.family_points.specs.Points.{HasUpper, point_at_vector, points_within, ScoreEnds}
use Rattle.gap_rules.proofs.Public.{IsBetween, between, at_most_self}

at_most_same : (a b : List ℕ) → AtMost a b → AtMost b a → a ≡ b
at_most_same [] [] h k = refl
at_most_same [] (y ∷ b) h k = absurd h
at_most_same (x ∷ a) [] h k = absurd h
at_most_same (x ∷ a) (y ∷ b) h k =
    let p = h.0 in let q = k.0 in
    let e : x ≡ y = omega (arith, p, q) in
    ap₂ (λ z w. z ∷ w) e (at_most_same a b h.1 k.1)

only_point : (c : CaseRows) (l : ℕ) (score : ScoreEnds) (held v : List ℕ) (w : Point) → Among w (points_within c l score held v v) → w ≡ point_at_vector c l score held v
only_point c l score held v w m =
    let r : Mapped (point_at_vector c l score held) (vectors v v) w = among_mapped (point_at_vector c l score held) (vectors v v) w m in
    let b : IsBetween v r.from v = between v v r.from r.there in
    r.is ∙ ap (point_at_vector c l score held) (at_most_same r.from v b.high b.low)

-- the box of one vector
abbrev one_box : List ℕ → List ℕ → Bounds
one_box a v = record { held = a; low = v; high = v }

-- the upper end of a point of a box of one vector is the vector's
pub one_upper : (c : CaseRows) (l : ℕ) (score : ScoreEnds) (box : Bounds) (a v : List ℕ) (upper : Result ℕ NoMemory) → box ≡ one_box a v
    → IfOk upper (HasUpper (points_within c l score box.held box.low box.high)) → IfOk upper (λ hi. hi ≡ (point_at_vector c l score a v).hi)
one_upper c l score box a v (Ok hi) e is =
    let own : HasUpper (points_within c l score a v v) hi =
    subst (λ (x : Bounds). HasUpper (points_within c l score x.held x.low x.high) hi) e is in
    sym own.2 ∙ ap (λ (z : Point). z.hi) (only_point c l score a v own.0 own.1)
one_upper c l score box a v (Err want) e is = tt

-- a box of one vector is in order where the vector lies between what is held and the limits
pub one_ordered : (c : CaseRows) (l : ℕ) (box : Bounds) (a v : List ℕ) → box ≡ one_box a v → AtMost a v → AtMost v (limits c l) → IsOrdered c l box
one_ordered c l box a v e order limit = subst (λ x. IsOrdered c l x) (sym e) (record {
  held_least = order;
  low_least = at_most_self v;
  within = limit;
})

-- the upper ends from family f on are that of f and those behind it
pub hi_next : (g : ℕ → Point) (ls : List ℕ) (f : ℕ) → f < length ls → hi_of (map g (drop f ls)) ≡ (g (get_or ls f 0)).hi + hi_of (map g (drop (f + 1) ls))
hi_next g [] f b = absurd (omega arith)
hi_next g (l ∷ ls) zero b = refl
hi_next g (l ∷ ls) (suc f) b = hi_next g ls f (omega arith) ∙ ap (λ n. (g (get_or ls f 0)).hi + hi_of (map g (drop n (l ∷ ls)))) (one f)
  where
    one : (f : ℕ) → suc (f + 1) ≡ suc f + 1
    one f = omega arith
