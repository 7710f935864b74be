-- Members of lists, of maps, of rows and of numbers in a row.
use Rattle.std.proofs.Common.{◌≡◌, ℕ, zero, suc, ◌+◌, ◌<◌, ◌≤◌, inl, inr, List, [], ◌∷◌, map, flat_map, refl, sym, ap, subst, arith, eq-or-lt_of_le}
use Rattle.std.specs.List.{range_with_len}
use Rattle.hull.specs.Curves.{Among}
use Rattle.hull.proofs.Stand.{among_left, among_right, among_either}

-- what is made of a member is among what is made of all
pub among_map : {X Y : Type 0} (f : X → Y) (xs : List X) (x : X) → Among x xs → Among (f x) (map f xs)
among_map f [] x a = absurd a
among_map f (y ∷ ys) x (inl e) = inl (ap f e)
among_map f (y ∷ ys) x (inr a) = inr (among_map f ys x a)

-- a member of a mapped list, with the one that it is made of
pub record Mapped {X Y : Type 0} (f : X → Y) (xs : List X) (y : Y) : Type 0 where
  pub from : X
  pub there : Among from xs
  pub is : y ≡ f from

-- a member of a mapped list is made of some member of the list
pub among_mapped : {X Y : Type 0} (f : X → Y) (xs : List X) (y : Y) → Among y (map f xs) → Mapped f xs y
among_mapped f [] y a = absurd a
among_mapped f (x ∷ xs) y (inl e) = record { from = x; there = inl refl; is = e }
among_mapped f (x ∷ xs) y (inr a) = (let m = among_mapped f xs y a in record { from = m.from; there = inr m.there; is = m.is })

-- a member of the row of a member is among all rows together
pub among_flat : {X Y : Type 0} (f : X → List Y) (xs : List X) (x : X) (y : Y) → Among x xs → Among y (f x) → Among y (flat_map f xs)
among_flat f [] x y a b = absurd a
among_flat f (z ∷ zs) x y (inl e) b = among_left y (f z) (flat_map f zs) (subst (λ w. Among y (f w)) e b)
among_flat f (z ∷ zs) x y (inr a) b = among_right y (f z) (flat_map f zs) (among_flat f zs x y a b)

-- a member of all rows together, with the one whose row it is in
pub record Flattened {X Y : Type 0} (f : X → List Y) (xs : List X) (y : Y) : Type 0 where
  pub from : X
  pub there : Among from xs
  pub in_it : Among y (f from)

-- a member of all rows together is in the row of some member
pub among_flattened : {X Y : Type 0} (f : X → List Y) (xs : List X) (y : Y) → Among y (flat_map f xs) → Flattened f xs y
among_flattened f [] y a = absurd a
among_flattened f (x ∷ xs) y a = elim (among_either y (f x) (flat_map f xs) a) [
  | inl b ↦ record { from = x; there = inl refl; in_it = b }
  | inr b ↦ (let m = among_flattened f xs y b in record { from = m.from; there = inr m.there; in_it = m.in_it })
]

-- ---- numbers in a row

-- a number from a on and below a + n is among the n numbers from a on
pub in_range : (x a n : ℕ) → a ≤ x → x < a + n → Among x (range_with_len a n)
in_range x a zero h l = absurd (omega arith)
in_range x a (suc n) h l = elim (eq-or-lt_of_le h) [ inl e ↦ inl (sym e) | inr m ↦ inr (in_range x (a + 1) n (omega (arith, m)) (omega arith)) ]

-- a number among the n numbers from a on is at least a and below a + n
pub range_has : (x a n : ℕ) → Among x (range_with_len a n) → (a ≤ x) × (x < a + n)
range_has x a zero h = absurd h
range_has x a (suc n) (inl e) = (omega (arith, e), omega (arith, e))
range_has x a (suc n) (inr h) = (let r = range_has x (a + 1) n h in (omega (arith, r.0), omega (arith, r.1)))
