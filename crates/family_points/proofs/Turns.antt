-- Points in either order of the line unit's stocks and its shop units' have one curve.
use Rattle.std.proofs.Common.{ℕ, inl, inr, List, [], ◌∷◌, map, flat_map, refl, sym, ◌∙◌, subst}
use Rattle.std.proofs.lemmas.List.Folds.{flat_map-map}
use Rattle.std.proofs.lemmas.Simd.{map-map}
use Rattle.list_laws.proofs.Public.{each_any, flat_flat, map_flat, same_flat}
use Rattle.hull.specs.declared.point.Point.{Point}
use Rattle.hull.specs.Curves.{Among, IsCurve}
use Rattle.hull.proofs.Public.{of_members, among_left, among_right, among_either}
use Rattle.family_points.specs.Vectors.{between, vectors}
use Rattle.family_points.specs.Points.{ScoreEnds}
use Rattle.family_points.specs.Separation.{base_point}
use Rattle.family_points.specs.Turned.{turned_points}
use Rattle.family_points.specs.Inputs.{FamilyBox, line_high, line_low, line_stocks, shop_high, shop_low, shop_vectors}

module _ {X Y : Type 0} (f : X → Y → Point) where
  -- one element's points, put before those of each
  one_more : (v : Point) (x : X) (xs : List X) (ys : List Y) → Among v (map (f x) ys) → Among v (flat_map (λ y. map (λ z. f z y) (x ∷ xs)) ys)
  one_more v x xs [] m = absurd m
  one_more v x xs (y ∷ ys) m = elim m [
    | inl e ↦ inl e
    | inr n ↦ inr (among_right v (map (λ z. f z y) xs) (flat_map (λ y. map (λ z. f z y) (x ∷ xs)) ys) (one_more v x xs ys n))
  ]

  others : (v : Point) (x : X) (xs : List X) (ys : List Y) → Among v (flat_map (λ y. map (λ z. f z y) xs) ys) → Among v (flat_map (λ y. map (λ z. f z y) (x ∷ xs)) ys)
  others v x xs [] m = absurd m
  others v x xs (y ∷ ys) m = elim (among_either v (map (λ z. f z y) xs) (flat_map (λ y. map (λ z. f z y) xs) ys) m) [
    | inl a ↦ inr (among_left v (map (λ z. f z y) xs) (flat_map (λ y. map (λ z. f z y) (x ∷ xs)) ys) a)
    | inr b ↦ inr (among_right v (map (λ z. f z y) xs) (flat_map (λ y. map (λ z. f z y) (x ∷ xs)) ys) (others v x xs ys b))
  ]

  -- the points of two loops are the same in either order of the loops
  pub turn : (v : Point) (xs : List X) (ys : List Y) → Among v (flat_map (λ x. map (f x) ys) xs) → Among v (flat_map (λ y. map (λ x. f x y) xs) ys)
  turn v [] ys m = absurd m
  turn v (x ∷ xs) ys m = elim (among_either v (map (f x) ys) (flat_map (λ x. map (f x) ys) xs) m) [
    | inl a ↦ one_more v x xs ys a
    | inr b ↦ others v x xs ys (turn v xs ys b)
  ]

-- the points of a base with the shop units' stocks first have the curve of the base
pub curve_turned : (ends : ScoreEnds) (x : FamilyBox) (d : List ℕ) (j : ℕ) (curve : List Point) → IsCurve (turned_points ends x d j) curve
    → IsCurve (map (base_point ends x d j) (vectors (line_low x j ∷ shop_low x j) (line_high x j ∷ shop_high x j))) curve
curve_turned ends x d j curve h =
    let ss : List ℕ = line_stocks x j in
    let vs : List (List ℕ) = shop_vectors x j in
    let point : ℕ → List ℕ → Point = λ s shops. base_point ends x d j (s ∷ shops) in
    let back : List ℕ → ℕ → Point = λ shops s. base_point ends x d j (s ∷ shops) in
    subst (λ ps. IsCurve ps curve)
    (sym (map_flat (base_point ends x d j) (λ s. map (λ v. s ∷ v) vs) ss
    ∙ same_flat (λ s. Unit {0}) (λ s. map (base_point ends x d j) (map (λ v. s ∷ v) vs)) (λ s. map (point s) vs) ss
    (λ s _. map-map (base_point ends x d j) (λ v. s ∷ v) vs) (each_any ss)))
    (of_members (flat_map (λ shops. map (back shops) ss) vs) (flat_map (λ s. map (point s) vs) ss) curve
    (λ v. (turn back v vs ss, turn point v ss vs)) h)

-- ---- lists of points in either order

record From {X : Type 0} (f : X → List Point) (xs : List X) (v : Point) : Type 0 where
  x : X
  at : Among x xs
  here : Among v (f x)

from_flat : {X : Type 0} (f : X → List Point) (xs : List X) (v : Point) → Among v (flat_map f xs) → From f xs v
from_flat f [] v m = absurd m
from_flat f (x ∷ xs) v m = elim (among_either v (f x) (flat_map f xs) m) [
  | inl a ↦ record { x = x; at = inl refl; here = a }
  | inr b ↦ (let r : From f xs v = from_flat f xs v b in record { x = r.x; at = inr r.at; here = r.here })
]

to_flat : {X : Type 0} (f : X → List Point) (xs : List X) (v : Point) (x : X) → Among x xs → Among v (f x) → Among v (flat_map f xs)
to_flat f [] v x m h = absurd m
to_flat f (y ∷ ys) v x m h = elim m [
  | inl e ↦ among_left v (f y) (flat_map f ys) (subst (λ z. Among v (f z)) e h)
  | inr n ↦ among_right v (f y) (flat_map f ys) (to_flat f ys v x n h)
]

-- the points of two loops of lists are the same in either order of the loops
pub turn_lists : {X Y : Type 0} (f : X → Y → List Point) (v : Point) (xs : List X) (ys : List Y)
    → Among v (flat_map (λ x. flat_map (f x) ys) xs) → Among v (flat_map (λ y. flat_map (λ x. f x y) xs) ys)
turn_lists f v xs ys m =
    let a : From (λ x. flat_map (f x) ys) xs v = from_flat (λ x. flat_map (f x) ys) xs v m in
    let b : From (f a.x) ys v = from_flat (f a.x) ys v a.here in
    to_flat (λ y. flat_map (λ x. f x y) xs) ys v b.x b.at (to_flat (λ x. f x b.x) xs v a.x a.at b.here)

-- the points of all vectors, the shop units' stocks first
pub curve_of_turned : (at : List ℕ → List Point) (a b : ℕ) (low high : List ℕ) (curve : List Point)
    → IsCurve (flat_map (λ shops. flat_map (λ s. at (s ∷ shops)) (between a b)) (vectors low high)) curve
    → IsCurve (flat_map at (vectors (a ∷ low) (b ∷ high))) curve
curve_of_turned at a b low high curve h =
    let points : ℕ → List ℕ → List Point = λ s shops. at (s ∷ shops) in
    let back : List ℕ → ℕ → List Point = λ shops s. at (s ∷ shops) in
    subst (λ ps. IsCurve ps curve)
    (sym (flat_flat at (λ s. map (λ v. s ∷ v) (vectors low high)) (between a b)
    ∙ same_flat (λ s. Unit {0}) (λ s. flat_map at (map (λ v. s ∷ v) (vectors low high))) (λ s. flat_map (points s) (vectors low high)) (between a b)
    (λ s _. flat_map-map at (λ v. s ∷ v) (vectors low high)) (each_any (between a b))))
    (of_members (flat_map (λ shops. flat_map (back shops) (between a b)) (vectors low high)) (flat_map (λ s. flat_map (points s) (vectors low high)) (between a b)) curve
    (λ v. (turn_lists back v (vectors low high) (between a b), turn_lists points v (between a b) (vectors low high))) h)
