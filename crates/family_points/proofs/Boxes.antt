-- Lists that are made of lists, and boxes of vectors.
use Rattle.std.proofs.Common.{◌≡◌, ℕ, zero, suc, ◌+◌, ◌*◌, List, [], ◌∷◌, ◌++◌, length, map, flat_map, take, drop, refl, sym, ap, ◌∙◌, arith}
use Rattle.std.specs.List.{range_with_len, AllByRecursion}
use Rattle.std.proofs.lemmas.List.{map-id, append-nil, drop-drop}
use Rattle.std.proofs.lemmas.List.Folds.{flat_map-map}
use Rattle.std.proofs.lemmas.Simd.{map-map}
use Rattle.std.proofs.Math.Seq.{take-add}
use Rattle.list_laws.proofs.Public.{each_any, each_append, each_mapped, flat_flat, map_flat, same_flat}
use Rattle.family_points.specs.Vectors.{between, vectors}

-- ---- something of each element

-- what is true of all members of each row is so of the rows put one after another
pub each_flat : {X Y : Type 0} (P : Y → Type 0) (f : X → List Y) (xs : List X) → ((x : X) → AllByRecursion P (f x)) → AllByRecursion P (flat_map f xs)
each_flat P f [] h = tt
each_flat P f (x ∷ xs) h = each_append P (f x) (flat_map f xs) (h x) (each_flat P f xs h)

-- ---- boxes

-- each vector is as long as its bounds
pub each_long : (low high : List ℕ) → length low ≡ length high → AllByRecursion (λ (v : List ℕ). length v ≡ length low) (vectors low high)
each_long [] [] e = (refl, tt)
each_long [] (b ∷ high) e = tt
each_long (a ∷ low) [] e = tt
each_long (a ∷ low) (b ∷ high) e =
    each_flat (λ (v : List ℕ). length v ≡ suc (length low)) (λ x. map (λ v. x ∷ v) (vectors low high)) (between a b)
    (λ x. each_mapped (λ (v : List ℕ). length v ≡ length low) (λ (v : List ℕ). length v ≡ suc (length low)) (λ v. x ∷ v) (vectors low high) (λ v h. ap suc h)
    (each_long low high (omega arith)))

-- a box of longer vectors, by their front parts and then by the rest
pub vectors_joined : (low high more most : List ℕ) → length low ≡ length high
    → vectors (low ++ more) (high ++ most) ≡ flat_map (λ v. map (λ u. v ++ u) (vectors more most)) (vectors low high)
vectors_joined [] [] more most e = sym (append-nil (map (λ u. u) (vectors more most)) ∙ map-id (vectors more most))
vectors_joined [] (b ∷ high) more most e = absurd (omega (arith, e))
vectors_joined (a ∷ low) [] more most e = absurd (omega (arith, e))
vectors_joined (a ∷ low) (b ∷ high) more most e =
    let rest = vectors more most in
    let fronts = vectors low high in
    same_flat (λ x. Unit {0}) (λ x. map (λ v. x ∷ v) (vectors (low ++ more) (high ++ most))) (λ x. flat_map (λ v. map (λ u. v ++ u) rest) (map (λ v. x ∷ v) fronts))
    (between a b)
    (λ x _. ap (λ (vs : List (List ℕ)). map (λ v. x ∷ v) vs) (vectors_joined low high more most (omega arith))
    ∙ map_flat (λ v. x ∷ v) (λ v. map (λ u. v ++ u) rest) fronts
    ∙ same_flat (λ v. Unit {0}) (λ v. map (λ w. x ∷ w) (map (λ u. v ++ u) rest)) (λ v. map (λ u. x ∷ (v ++ u)) rest) fronts
    (λ v _. map-map (λ w. x ∷ w) (λ u. v ++ u) rest) (each_any fronts)
    ∙ sym (flat_map-map (λ v. map (λ u. v ++ u) rest) (λ v. x ∷ v) fronts))
    (each_any (between a b))
    ∙ sym (flat_flat (λ v. map (λ u. v ++ u) rest) (λ x. map (λ v. x ∷ v) fronts) (between a b))

-- ---- equal parts of a list

-- the parts of n elements each, from the a-th on
pub parts_joined : (w : ℕ) (v : List ℕ) (n a : ℕ) → flat_map (λ k. take w (drop (k * w) v)) (range_with_len a n) ≡ take (n * w) (drop (a * w) v)
parts_joined w v zero a = none (0 * w) (drop (a * w) v) (omega arith)
  where
    none : (m : ℕ) (xs : List ℕ) → m ≡ 0 → [] ≡ take m xs
    none m xs e = ap (λ k. take k xs) (sym e)
parts_joined w v (suc n) a =
    let next : a * w + w ≡ (a + 1) * w = omega arith in
    let all : w + n * w ≡ suc n * w = omega arith in
    ap (λ (r : List ℕ). take w (drop (a * w) v) ++ r)
    (parts_joined w v n (a + 1) ∙ ap (λ (r : List ℕ). take (n * w) r) (sym (drop-drop w (a * w) v ∙ ap (λ k. drop k v) next)))
    ∙ sym (take-add w (n * w) (drop (a * w) v))
    ∙ ap (λ k. take k (drop (a * w) v)) all
