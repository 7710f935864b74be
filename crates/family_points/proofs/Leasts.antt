-- The least Lagrangian of points at a price.
use Rattle.std.proofs.Common.{◌≡◌, ℕ, ◌+◌, ◌<◌, ◌≤◌, inl, inr, min, nat_le, Bool, true, false, List, [], ◌∷◌, ◌++◌, length, map, flat_map, cond, refl, sym, ap, ◌∙◌, subst, arith}
use Rattle.std.specs.List.Sorted.{IsPermutation}
use Rattle.std.proofs.lemmas.Bool.{cases_lt, le-leb, leb-true, leb-false}
use Rattle.std.proofs.lemmas.List.Sorted.{IsPermutation-sym}
use Rattle.hull.specs.declared.point.Point.{Point}
use Rattle.hull.specs.Curves.{lagrangian, Among, plus, sums}
use Rattle.hull.proofs.Public.{among_permuted, among_left, among_right, among_either, Parts, parts_of, sum_among}
use Rattle.family_points.specs.Least.{AreAtLeast, IsLeast, Decides, least, least_of}

-- ---- the least as a number

-- the least of a number over points is at most that of each point
pub least_most : (f : Point → ℕ) (points : List Point) (w : Point) → Among w points → least f points ≤ f w
least_most f [] w h = absurd h
least_most f (v ∷ []) w h = elim h [ inl e ↦ (let q = ap f e in omega (arith, q)) | inr m ↦ absurd m ]
least_most f (v ∷ u ∷ rest) w h = elim h [
  | inl e ↦ (let q = ap f e in omega (arith, q))
  | inr m ↦ (let q = least_most f (u ∷ rest) w m in omega (arith, q))
]

-- what is at most the number of each is at most the least
least_from : (f : Point → ℕ) (v : Point) (rest : List Point) (m : ℕ) → ((w : Point) → Among w (v ∷ rest) → m ≤ f w) → m ≤ least f (v ∷ rest)
least_from f v [] m h = h v (inl refl)
least_from f v (u ∷ rest) m h =
    let a = h v (inl refl) in
    let b = least_from f u rest m (λ w n. h w (inr n)) in
    omega (arith, a, b)

some_from : (f : Point → ℕ) (points : List Point) (u : Point) (m : ℕ) → Among u points → ((w : Point) → Among w points → m ≤ f w) → m ≤ least f points
some_from f [] u m a h = absurd a
some_from f (v ∷ rest) u m a h = least_from f v rest m h

-- the least Lagrangian is the least of the points' Lagrangians
pub least_is : (p q : ℕ) (points : List Point) (m : ℕ) → IsLeast p q points m → m ≡ least (lagrangian p q) points
least_is p q points m h =
    let v = h.reached.0 in
    let a = least_most (lagrangian p q) points v h.reached.1 in
    let b = some_from (lagrangian p q) points v m h.reached.1 h.most in
    let e = h.reached.2 in
    omega (arith, a, b, e)

-- and where there are points there is one
pub is_least : (p q : ℕ) (v : Point) (rest : List Point) → IsLeast p q (v ∷ rest) (least (lagrangian p q) (v ∷ rest))
is_least p q v rest = record { most = λ w m. least_most (lagrangian p q) (v ∷ rest) w m; reached = reached v rest }
  where
    reached : (v : Point) (rest : List Point) → (w : Point) × Among w (v ∷ rest) × (lagrangian p q w ≡ least (lagrangian p q) (v ∷ rest))
    reached v [] = (v, inl refl, refl)
    reached v (u ∷ rest) =
        let r = reached u rest in
        let f = lagrangian p q in
        elim (cases_lt (least f (u ∷ rest)) (f v)) [
          | inl l ↦ (r.0, inr r.1, (let e = r.2 in omega (arith, e, l)))
          | inr l ↦ (v, inl refl, omega (arith, l))
        ]

-- some points have a least
pub is_least_some : (p q : ℕ) (points : List Point) → 0 < length points → IsLeast p q points (least (lagrangian p q) points)
is_least_some p q [] h = absurd (omega (arith, h))
is_least_some p q (v ∷ rest) h = is_least p q v rest

-- ---- of one point, of one more, of the same points in another order, of sums

-- one point alone
pub least_one : (p q : ℕ) (v : Point) (m : ℕ) → m ≡ lagrangian p q v → IsLeast p q (v ∷ []) m
least_one p q v m e = record {
  most = λ w a. elim a [ inl s ↦ (let k = ap (lagrangian p q) s in omega (arith, e, k)) | inr n ↦ absurd n ];
  reached = (v, inl refl, sym e);
}

-- one point more
pub least_more : (p q : ℕ) (points : List Point) (v : Point) (m n : ℕ) → IsLeast p q points m → n ≡ lagrangian p q v → IsLeast p q (points ++ v ∷ []) (min m n)
least_more p q points v m n h e = record {
  most = λ w a. elim (among_either w points (v ∷ []) a) [
    | inl k ↦ (let l = h.most w k in omega (arith, l))
    | inr k ↦ elim k [ inl s ↦ (let i = ap (lagrangian p q) s in omega (arith, e, i)) | inr none ↦ absurd none ]
  ];
  reached = elim (cases_lt n m) [
    | inl l ↦ (v, among_right v points (v ∷ []) (inl refl), omega (arith, e, l))
    | inr l ↦ (h.reached.0, among_left h.reached.0 points (v ∷ []) h.reached.1, (let i = h.reached.2 in omega (arith, i, l)))
  ];
}

-- the same points in another order
pub least_same : (p q : ℕ) (points other : List Point) (m : ℕ) → ((v : Point) → Among v points → Among v other) → ((v : Point) → Among v other → Among v points)
    → IsLeast p q points m → IsLeast p q other m
least_same p q points other m there back h = record {
  most = λ v a. h.most v (back v a);
  reached = (h.reached.0, there h.reached.0 h.reached.1, h.reached.2);
}

-- a permutation of the points
pub least_permuted : (p q : ℕ) (points other : List Point) (m : ℕ) → IsPermutation points other → IsLeast p q other m → IsLeast p q points m
least_permuted p q points other m perm h =
    least_same p q other points m (λ v a. among_permuted points other perm v a) (λ v a. among_permuted other points (IsPermutation-sym points other perm) v a) h

-- the least of all sums is the sum of the leasts
pub least_sums : (p q a b : ℕ) (vs ws : List Point) → IsLeast p q vs a → IsLeast p q ws b → IsLeast p q (sums vs ws) (a + b)
least_sums p q a b vs ws h k = record {
  most = λ s m. (let r : Parts vs ws s = parts_of vs ws s m in
      let x = h.most r.first r.first_in in
      let y = k.most r.second r.second_in in
      subst (λ z. a + b ≤ lagrangian p q z) (sym r.is) (omega (arith, x, y)));
  reached = (
    plus h.reached.0 k.reached.0,
    sum_among h.reached.0 k.reached.0 vs ws h.reached.1 k.reached.1,
    (let x = h.reached.2 in let y = k.reached.2 in omega (arith, x, y)),
  );
}

-- the least of several lists together is the least of their leasts
pub least_flat : {X : Type 0} (p q : ℕ) (f : X → List Point) (g : X → ℕ) (xs : List X) → 0 < length xs → ((x : X) → Among x xs → IsLeast p q (f x) (g x))
    → IsLeast p q (flat_map f xs) (least_of (map g xs))
least_flat p q f g [] some h = absurd (omega (arith, some))
least_flat {X} p q f g (x ∷ []) some h =
    least_same p q (f x) (f x ++ []) (g x) (λ v a. among_left v (f x) [] a) (λ v a. elim (among_either v (f x) [] a) [ inl k ↦ k | inr none ↦ absurd none ]) (h x (inl refl))
least_flat {X} p q f g (x ∷ y ∷ xs) some h =
    let here = h x (inl refl) in
    let rest : IsLeast p q (flat_map f (y ∷ xs)) (least_of (map g (y ∷ xs))) = least_flat p q f g (y ∷ xs) (omega arith) (λ z a. h z (inr a)) in
    record {
      most = λ v a. elim (among_either v (f x) (flat_map f (y ∷ xs)) a) [
        | inl k ↦ (let l = here.most v k in omega (arith, l))
        | inr k ↦ (let l = rest.most v k in omega (arith, l))
      ];
      reached = elim (cases_lt (least_of (map g (y ∷ xs))) (g x)) [
        | inl l ↦ (rest.reached.0, among_right rest.reached.0 (f x) (flat_map f (y ∷ xs)) rest.reached.1, (let e = rest.reached.2 in omega (arith, e, l)))
        | inr l ↦ (here.reached.0, among_left here.reached.0 (f x) (flat_map f (y ∷ xs)) here.reached.1, (let e = here.reached.2 in omega (arith, e, l)))
      ];
    }

-- ---- what is decided of points

-- two lists of points
pub at_least_both : (p q floor : ℕ) (points more : List Point) → AreAtLeast p q floor points → AreAtLeast p q floor more → AreAtLeast p q floor (points ++ more)
at_least_both p q floor points more a b v k = elim (among_either v points more k) [ inl i ↦ a v i | inr i ↦ b v i ]

-- a smaller floor
pub at_least_less : (p q floor m : ℕ) (points : List Point) → AreAtLeast p q m points → floor ≤ m → AreAtLeast p q floor points
at_least_less p q floor m points a l v k = let n = a v k in omega (arith, n, l)

-- sums of points reach the sum of the floors
pub at_least_sums : (p q a b : ℕ) (vs ws : List Point) → AreAtLeast p q a vs → AreAtLeast p q b ws → AreAtLeast p q (a + b) (sums vs ws)
at_least_sums p q a b vs ws h k s m =
    let r : Parts vs ws s = parts_of vs ws s m in
    let x = h r.first r.first_in in
    let y = k r.second r.second_in in
    subst (λ z. a + b ≤ lagrangian p q z) (sym r.is) (omega (arith, x, y))

-- by the least of them
pub decides_least : (p q floor m : ℕ) (points : List Point) (answer : Bool) → IsLeast p q points m → answer ≡ nat_le floor m → Decides p q floor points answer
decides_least p q floor m points answer h e = record {
  yes = λ t v a. (let n = h.most v a in let l : floor ≤ m = leb-true floor m (sym e ∙ t) in omega (arith, n, l));
  no = λ t. (h.reached.0, h.reached.1, (let i = h.reached.2 in let l : m < floor = leb-false floor m (sym e ∙ t) in omega (arith, i, l)));
}

-- yes, because all of them reach the floor
pub decides_true : (p q floor : ℕ) (points : List Point) → AreAtLeast p q floor points → Decides p q floor points true
decides_true p q floor points a = record { yes = λ _. a; no = λ e. absurd (differ e) }
  where
    differ : true ≡ false → ⊥
    differ e = subst (λ b. cond b (Unit {0}) ⊥) e tt

-- no, because one of them is below the floor
pub decides_false : (p q floor : ℕ) (points : List Point) (v : Point) → Among v points → lagrangian p q v < floor → Decides p q floor points false
decides_false p q floor points v m l = record { yes = λ e. absurd (differ e); no = λ _. (v, m, l) }
  where
    differ : false ≡ true → ⊥
    differ e = subst (λ b. cond b ⊥ (Unit {0})) e tt

-- the same points in another order
pub decides_same : (p q floor : ℕ) (points other : List Point) (answer : Bool) → ((v : Point) → Among v points → Among v other) → ((v : Point) → Among v other → Among v points)
    → Decides p q floor points answer → Decides p q floor other answer
decides_same p q floor points other answer there back h = record {
  yes = λ e v m. h.yes e v (back v m);
  no = λ e. (let r = h.no e in (r.0, there r.0 r.1, r.2));
}

-- what is decided is whether the least is at least the floor
pub decided : (p q floor : ℕ) (points : List Point) (answer : Bool) → 0 < length points → Decides p q floor points answer → answer ≡ nat_le floor (least (lagrangian p q) points)
decided p q floor points true some h =
    let l = is_least_some p q points some in
    let a = h.yes refl l.reached.0 l.reached.1 in
    let e = l.reached.2 in
    sym (le-leb floor (least (lagrangian p q) points) (omega (arith, a, e)))
decided p q floor points false some h = below (nat_le floor (least (lagrangian p q) points)) refl
  where
    below : (b : Bool) → b ≡ nat_le floor (least (lagrangian p q) points) → false ≡ b
    below false e = refl
    below true e =
        let l = is_least_some p q points some in
        let r = h.no refl in
        let a = l.most r.0 r.1 in
        let n = r.2 in
        let k : floor ≤ least (lagrangian p q) points = leb-true floor (least (lagrangian p q) points) (sym e) in
        absurd (omega (arith, a, n, k))
