-- Members of all vectors from low to high.
use Rattle.std.proofs.Common.{ℕ, suc, ◌+◌, ◌-◌, ◌<◌, ◌≤◌, inl, inr, List, [], ◌∷◌, map, refl, sym, subst, arith}
use Rattle.std.specs.List.{range_with_len}
use Rattle.hull.specs.Curves.{Among}
use Rattle.hull.proofs.Public.{among_map, Mapped, among_mapped, Flattened, among_flattened, range_has, in_range, among_flat}
use Rattle.gap_rules.specs.Boxes.{AtMost}
use Rattle.family_points.specs.Vectors.{vectors}

-- the vectors from low to high are those between the two
pub among_vectors : (low high v : List ℕ) → AtMost low v → AtMost v high → Among v (vectors low high)
among_vectors [] [] [] h k = inl refl
among_vectors [] [] (x ∷ v) h k = absurd h
among_vectors [] (b ∷ high) [] h k = absurd k
among_vectors [] (b ∷ high) (x ∷ v) h k = absurd h
among_vectors (a ∷ low) high [] h k = absurd h
among_vectors (a ∷ low) [] (x ∷ v) h k = absurd k
among_vectors (a ∷ low) (b ∷ high) (x ∷ v) h k =
    let l = h.0 in let m = k.0 in
    among_flat (λ y. map (λ w. y ∷ w) (vectors low high)) (range_with_len a (suc b - a)) x (x ∷ v) (in_range x a (suc b - a) l (omega (arith, l, m)))
    (among_map (λ w. x ∷ w) (vectors low high) v (among_vectors low high v h.1 k.1))

-- the list is at least a and at most b, place by place
pub record IsBetween (a v b : List ℕ) : Type 0 where
  pub low : AtMost a v
  pub high : AtMost v b

between_cons : (low high v : List ℕ) (a b x : ℕ) → a ≤ x → x < a + (suc b - a) → IsBetween low v high → IsBetween (a ∷ low) (x ∷ v) (b ∷ high)
between_cons low high v a b x h k r = record { low = (h, r.low); high = (omega (arith, h, k), r.high) }

-- each vector of a box lies between the box's corners
pub between : (low high v : List ℕ) → Among v (vectors low high) → IsBetween low v high
between [] [] v h = elim h [
  | inl e ↦ subst (λ z. IsBetween [] z []) (sym e) (record { low = tt; high = tt })
  | inr m ↦ absurd m
]
between [] (b ∷ high) v h = absurd h
between (a ∷ low) [] v h = absurd h
between (a ∷ low) (b ∷ high) v h =
    let r : Flattened (λ y. map (λ w. y ∷ w) (vectors low high)) (range_with_len a (suc b - a)) v = among_flattened _ (range_with_len a (suc b - a)) v h in
    let s : Mapped (λ w. r.from ∷ w) (vectors low high) v = among_mapped (λ w. r.from ∷ w) (vectors low high) v r.in_it in
    let n = range_has r.from a (suc b - a) r.there in
    subst (λ z. IsBetween (a ∷ low) z (b ∷ high)) (sym s.is) (between_cons low high s.from a b r.from n.0 n.1 (between low high s.from s.there))
