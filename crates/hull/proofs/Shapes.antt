-- What the definition by prices makes of a curve.
use Rattle.std.proofs.Common.{◌≡◌, ℕ, ◌+◌, ◌-◌, ◌*◌, ◌<◌, ◌≤◌, ◌⊎◌, inl, inr, List, [], ◌∷◌, ◌++◌, refl, sym, ap, ◌∙◌, subst, arith}
use Rattle.std.proofs.Math.Nat.{mul-le-mul_left}
use Rattle.list_laws.proofs.Public.{fractions_fall}
use Rattle.hull.specs.declared.point.Point.{Point}
use Rattle.hull.specs.Curves.{lagrangian, SamePlace, Among, IsVertexAt, IsVertex, IsFirstOf, Rises, IsCurve, IsChain, Steps, Turns}
use Rattle.hull.specs.Laws.{IsOfMembers, StocksTell, HasOneCurve, IsConvex, BeginsCheapest, EndsLowest}
use Rattle.hull.proofs.Prices.{LeastOf, Leads, least_of}
use Rattle.hull.proofs.Stand.{same_sym, stand_for, among_right}
use Rattle.hull.proofs.StepsOf.{stand_same}
use Rattle.hull.proofs.Chains.{rises_from_head}
use Rattle.hull.proofs.Sums.{first_falls}

-- order and repetition of the points don't matter for their curve
pub of_members : IsOfMembers
of_members points other curve same c = stand_for other points curve (stand_same other points (λ v m. (same v).1 m) (λ v m. (same v).0 m)) c

-- ---- one curve

rises_tail : (u : Point) (rest : List Point) → Rises (u ∷ rest) → Rises rest
rises_tail u [] r = tt
rises_tail u (x ∷ rest) r = r.1

-- lists by rising cost with the same members are the same
module _ (x : Point) (xs : List Point) (y : Point) (ys : List Point) (rx : Rises (x ∷ xs)) (ry : Rises (y ∷ ys)) where
  same_head : Among x (y ∷ ys) → Among y (x ∷ xs) → x ≡ y
  same_head a b = elim a [
    | inl e ↦ e
    | inr m ↦ elim b [
      | inl e ↦ sym e
      | inr n ↦ absurd (let k = rises_from_head y ys ry x m in let l = rises_from_head x xs rx y n in omega (arith, k, l))
    ]
  ]

  into_tail : x ≡ y → (v : Point) → Among v xs → Among v (y ∷ ys) → Among v ys
  into_tail e v m n = elim n [
    | inl g ↦ absurd (let k = rises_from_head x xs rx v m in let z : v.cost ≡ x.cost = ap (λ t. t.cost) (g ∙ sym e) in omega (arith, k, z))
    | inr k ↦ k
  ]

same_lists : (xs ys : List Point) → Rises xs → Rises ys → ((v : Point) → Among v xs → Among v ys) → ((v : Point) → Among v ys → Among v xs) → xs ≡ ys
same_lists [] [] rx ry f g = refl
same_lists [] (y ∷ ys) rx ry f g = absurd (g y (inl refl))
same_lists (x ∷ xs) [] rx ry f g = absurd (f x (inl refl))
same_lists (x ∷ xs) (y ∷ ys) rx ry f g =
    let e : x ≡ y = same_head x xs y ys rx ry (f x (inl refl)) (g y (inl refl)) in
    let tails : xs ≡ ys = same_lists xs ys (rises_tail x xs rx) (rises_tail y ys ry)
    (λ v m. into_tail x xs y ys rx ry e v m (f v (inr m)))
    (λ v m. into_tail y ys x xs ry rx (sym e) v m (g v (inr m))) in
    ap (λ z. z ∷ xs) e ∙ ap (λ t. y ∷ t) tails

-- of two lists each is before the other only where they are the same
pub first_both : (xs ys : List ℕ) → IsFirstOf xs ys → IsFirstOf ys xs → xs ≡ ys
first_both [] [] h k = refl
first_both [] (y ∷ ys) h k = absurd k
first_both (x ∷ xs) [] h k = absurd h
first_both (x ∷ xs) (y ∷ ys) h k = elim h [
  | inl a ↦ elim k [ inl b ↦ absurd (omega (arith, a, b)) | inr b ↦ absurd (let e = b.0 in omega (arith, a, e)) ]
  | inr a ↦ elim k [
    | inl b ↦ absurd (let e = a.0 in omega (arith, b, e))
    | inr b ↦ ap (λ z. z ∷ xs) a.0 ∙ ap (λ t. y ∷ t) (first_both xs ys a.1 b.1)
  ]
]

-- a member of the one curve is a member of the other
shared_member : (points curve other : List Point) → StocksTell points → IsCurve points curve → IsCurve points other → (v : Point) → Among v curve → Among v other
shared_member points curve other tell c d v m =
    let k = d.complete v (c.among v m) (c.vertices v m) in
    let stocks : v.stocks ≡ k.0.stocks = first_both v.stocks k.0.stocks (c.firsts v k.0 m (d.among k.0 k.1) k.2) (d.firsts k.0 v k.1 (c.among v m) (same_sym k.2)) in
    subst (λ y. Among y other) (sym (tell v k.0 (c.among v m) (d.among k.0 k.1) stocks)) k.1

-- points that are told apart by their stocks have one curve
pub one_curve : HasOneCurve
one_curve points curve other tell c d =
    same_lists curve other c.rises d.rises (shared_member points curve other tell c d) (shared_member points other curve tell d c)

-- ---- steps

-- what a vertex says of a point elsewhere
less_there : (p q : ℕ) (points : List Point) (v w : Point) → IsVertexAt p q points v → Among w points → (w.cost ≡ v.cost → ⊥) → lagrangian p q v < lagrangian p q w
less_there p q points v w at m apart = elim (at.alone w m) [ inl s ↦ absurd (apart s.cost) | inr l ↦ l ]

lower_end : (p q vl vc ul uc : ℕ) → uc < vc → q * vl + p * vc < q * ul + p * uc → vl < ul
lower_end p q vl vc ul uc a h = elim (either vl ul) [ inl l ↦ l | inr k ↦ absurd (higher k) ]
  where
    either : (x y : ℕ) → (x < y) ⊎ (y ≤ x)
    either x y = grind arith

    higher : ul ≤ vl → ⊥
    higher k = let x = mul-le-mul_left q k in let y : p * uc ≤ p * vc = mul-le-mul_left p (let i : uc ≤ vc = omega arith in i) in omega (arith, h, x, y)

rise_below : (p q vl vc ul uc : ℕ) → uc < vc → vl < ul → q * vl + p * vc < q * ul + p * uc → p * (vc - uc) < (ul - vl) * q
rise_below p q vl vc ul uc a b h = moved (ul - vl) (vc - uc) (omega arith) (omega arith)
  where
    moved : (f d : ℕ) → f + vl ≡ ul → d + uc ≡ vc → p * d < f * q
    moved f d e g =
        let x : q * (f + vl) ≡ q * ul = ap (λ t. q * t) e in
        let y : p * (d + uc) ≡ p * vc = ap (λ t. p * t) g in
        omega (arith, x, y, h)

step_of : (points : List Point) (u v : Point) → Among u points → IsVertex points v → u.cost < v.cost → Steps u v
step_of points u v m h l = record {
  cost = l;
  lo = lower_end h.p h.q v.lo v.cost u.lo u.cost l (less_there h.p h.q points v u h.at m (λ e. omega (arith, l, e)));
}

turn_of : (points : List Point) (u v w : Point) → Among u points → Among w points → IsVertex points v → Steps u v → Steps v w → Turns u v w
turn_of points u v w m n h s t =
    let sc = s.cost in
    let tc = t.cost in
    let before : lagrangian h.p h.q v < lagrangian h.p h.q u = less_there h.p h.q points v u h.at m (λ e. omega (arith, sc, e)) in
    let after : lagrangian h.p h.q v < lagrangian h.p h.q w = less_there h.p h.q points v w h.at n (λ e. omega (arith, tc, e)) in
    fractions_fall (u.lo - v.lo) (v.cost - u.cost) h.p h.q (v.lo - w.lo) (w.cost - v.cost)
    (first_falls h.p h.q v.lo v.cost w.lo w.cost t.cost t.lo after)
    (rise_below h.p h.q v.lo v.cost u.lo u.cost s.cost s.lo before)
    (omega (arith, sc))

vertices_turn : (points curve : List Point) → Rises curve → ((v : Point) → Among v curve → Among v points) → ((v : Point) → Among v curve → IsVertex points v) → IsChain curve
vertices_turn points [] r sub h = tt
vertices_turn points (v ∷ []) r sub h = tt
vertices_turn points (u ∷ v ∷ []) r sub h = (step_of points u v (sub u (inl refl)) (h v (inr (inl refl))) r.0, tt, tt)
vertices_turn points (u ∷ v ∷ w ∷ rest) r sub h =
    let s : Steps u v = step_of points u v (sub u (inl refl)) (h v (inr (inl refl))) r.0 in
    let more : IsChain (v ∷ w ∷ rest) = vertices_turn points (v ∷ w ∷ rest) r.1 (λ x m. sub x (inr m)) (λ x m. h x (inr m)) in
    (s, turn_of points u v w (sub u (inl refl)) (sub w (inr (inr (inl refl)))) (h v (inr (inl refl))) s more.0, more)

-- on a curve the cost rises, the lower end falls, and each step falls less per money than the one before
pub convex : IsConvex
convex points curve c = vertices_turn points curve c.rises c.among c.vertices

-- ---- both ends

-- of the points of least cost, the one with the smallest lower end is a vertex
cheap_alone : (v w : Point) → Leads (λ u. u.cost) (λ u. u.lo) v w → SamePlace w v ⊎ (lagrangian (v.lo + 1) 1 v < lagrangian (v.lo + 1) 1 w)
cheap_alone v w l = elim l [
  | inl a ↦ inr (let k : (v.lo + 1) * (v.cost + 1) ≤ (v.lo + 1) * w.cost = mul-le-mul_left (v.lo + 1) (let i : v.cost + 1 ≤ w.cost = omega arith in i) in omega (arith, k))
  | inr b ↦ elim (equal_or v.lo w.lo b.1) [
    | inl e ↦ inl (record { cost = sym b.0; lo = sym e })
    | inr k ↦ inr (let z : (v.lo + 1) * v.cost ≡ (v.lo + 1) * w.cost = ap (λ t. (v.lo + 1) * t) b.0 in omega (arith, k, z))
  ]
]
  where
    equal_or : (x y : ℕ) → x ≤ y → (x ≡ y) ⊎ (x < y)
    equal_or x y h = grind arith

cheap_vertex : (points : List Point) (r : LeastOf (λ u. u.cost) (λ u. u.lo) points) → IsVertex points r.one
cheap_vertex points r = record {
  p = r.one.lo + 1;
  q = 1;
  at = record { p_positive = omega arith; q_positive = omega arith; alone = λ w m. cheap_alone r.one w (r.leads w m) };
}

least_first : (a b c d : ℕ) → (a < b) ⊎ ((a ≡ b) × (c ≤ d)) → a ≤ b
least_first a b c d h = grind arith

-- in a list by rising cost none costs less than the first
pub cost_of_head : (v : Point) (rest : List Point) → Rises (v ∷ rest) → (w : Point) → Among w (v ∷ rest) → v.cost ≤ w.cost
cost_of_head v rest r w m = elim m [ inl e ↦ subst (λ y. v.cost ≤ y.cost) (sym e) (omega arith) | inr n ↦ (let k = rises_from_head v rest r w n in omega (arith, k)) ]

-- a curve begins at the least cost
pub begins_cheapest : BeginsCheapest
begins_cheapest [] rest v w c m = absurd m
begins_cheapest (x ∷ xs) rest v w c m =
    let r : LeastOf (λ u. u.cost) (λ u. u.lo) (x ∷ xs) = least_of (λ u. u.cost) (λ u. u.lo) x xs in
    let k = c.complete r.one r.among (cheap_vertex (x ∷ xs) r) in
    let a = cost_of_head v rest c.rises k.0 k.1 in
    let e = k.2.cost in
    let b = least_first r.one.cost w.cost r.one.lo w.lo (r.leads w m) in
    omega (arith, a, e, b)

-- of the points with the smallest lower end, the one of least cost is a vertex
low_alone : (v w : Point) → Leads (λ u. u.lo) (λ u. u.cost) v w → SamePlace w v ⊎ (lagrangian 1 (v.cost + 1) v < lagrangian 1 (v.cost + 1) w)
low_alone v w l = elim l [
  | inl a ↦ inr (let k : (v.cost + 1) * (v.lo + 1) ≤ (v.cost + 1) * w.lo = mul-le-mul_left (v.cost + 1) (let i : v.lo + 1 ≤ w.lo = omega arith in i) in omega (arith, k))
  | inr b ↦ elim (equal_or v.cost w.cost b.1) [
    | inl e ↦ inl (record { cost = sym e; lo = sym b.0 })
    | inr k ↦ inr (let z : (v.cost + 1) * v.lo ≡ (v.cost + 1) * w.lo = ap (λ t. (v.cost + 1) * t) b.0 in omega (arith, k, z))
  ]
]
  where
    equal_or : (x y : ℕ) → x ≤ y → (x ≡ y) ⊎ (x < y)
    equal_or x y h = grind arith

low_vertex : (points : List Point) (r : LeastOf (λ u. u.lo) (λ u. u.cost) points) → IsVertex points r.one
low_vertex points r = record {
  p = 1;
  q = r.one.cost + 1;
  at = record { p_positive = omega arith; q_positive = omega arith; alone = λ w m. low_alone r.one w (r.leads w m) };
}

-- nor more than the last
pub cost_of_last : (front : List Point) (v : Point) → Rises (front ++ v ∷ []) → (w : Point) → Among w (front ++ v ∷ []) → w.cost ≤ v.cost
cost_of_last [] v r w m = elim m [ inl e ↦ subst (λ y. y.cost ≤ v.cost) (sym e) (omega arith) | inr n ↦ absurd n ]
cost_of_last (x ∷ front) v r w m = elim m [
  | inl e ↦ (let k = rises_from_head x (front ++ v ∷ []) r v (among_right v front (v ∷ []) (inl refl)) in subst (λ y. y.cost ≤ v.cost) (sym e) (omega (arith, k)))
  | inr n ↦ cost_of_last front v (rises_tail x (front ++ v ∷ []) r) w n
]

-- a vertex that costs no less than another point isn't above it
no_higher : (p q vl vc ul uc : ℕ) → uc ≤ vc → q * vl + p * vc < q * ul + p * uc → vl ≤ ul
no_higher p q vl vc ul uc a h = elim (either vl ul) [ inl l ↦ l | inr k ↦ absurd (higher k) ]
  where
    either : (x y : ℕ) → (x ≤ y) ⊎ (y ≤ x)
    either x y = grind arith

    higher : ul ≤ vl → ⊥
    higher k = let x = mul-le-mul_left q k in let y = mul-le-mul_left p a in omega (arith, h, x, y)

-- a curve ends at the smallest lower end
pub ends_lowest : EndsLowest
ends_lowest [] front v w c m = absurd m
ends_lowest (x ∷ xs) front v w c m =
    let r : LeastOf (λ u. u.lo) (λ u. u.cost) (x ∷ xs) = least_of (λ u. u.lo) (λ u. u.cost) x xs in
    let k = c.complete r.one r.among (low_vertex (x ∷ xs) r) in
    let a : k.0.cost ≤ v.cost = cost_of_last front v c.rises k.0 k.1 in
    let e = k.2.cost in
    let h : IsVertex (x ∷ xs) v = c.vertices v (among_right v front (v ∷ []) (inl refl)) in
    let low : v.lo ≤ r.one.lo = elim (h.at.alone r.one r.among) [
      | inl s ↦ (let l = s.lo in omega (arith, l))
      | inr l ↦ no_higher h.p h.q v.lo v.cost r.one.lo r.one.cost (omega (arith, a, e)) l
    ] in
    let b = least_first r.one.lo w.lo r.one.cost w.cost (r.leads w m) in
    omega (arith, low, b)
