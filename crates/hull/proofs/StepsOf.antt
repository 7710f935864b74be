-- Steps of the scan by cost: which point may go, and what a push keeps.
use Rattle.std.proofs.Common.{◌≡◌, ℕ, ◌+◌, ◌-◌, ◌*◌, ◌<◌, ◌≤◌, ◌⊎◌, inl, inr, List, [], ◌∷◌, ◌++◌, refl, sym, ap, subst, arith}
use Rattle.std.proofs.Math.Nat.{mul-le-mul_left, mul-lt-mul_of_pos_left}
use Rattle.std.proofs.lemmas.Bool.{cases_lt}
use Rattle.list_laws.proofs.Public.{weighted_no_less}
use Rattle.hull.specs.declared.point.Point.{Point}
use Rattle.hull.specs.Curves.{SamePlace, Among, IsVertex, IsFirstOf, StandFor, Steps, Turns, IsChain}
use Rattle.hull.proofs.Stand.{same_self, same_sym, same_trans, first_self, first_trans, vertex_of_part, vertex_at_place, among_left, among_right, among_either}

-- points stand for themselves
pub stand_self : (points : List Point) → StandFor points points
stand_self points = record { among = λ v m. m; covers = λ w m h. (w, m, same_self w, first_self w.stocks) }

-- what stands for points that stand for others stands for those
pub stand_trans : (a b c : List Point) → StandFor a b → StandFor b c → StandFor a c
stand_trans a b c s t = record {
  among = λ v m. s.among v (t.among v m);
  covers = λ w m h. (
      let k = s.covers w m h in
      let g : IsVertex b k.0 = vertex_of_part a b k.0 s.among (vertex_at_place a w k.0 (same_sym k.2) h) in
      let r = t.covers k.0 k.1 g in
      (r.0, r.1, same_trans r.2 k.2, first_trans r.0.stocks k.0.stocks w.stocks r.3 k.3));
}

-- the same members
pub stand_same : (a b : List Point) → ((v : Point) → Among v a → Among v b) → ((v : Point) → Among v b → Among v a) → StandFor a b
stand_same a b f g = record { among = g; covers = λ w m h. (w, f w m, same_self w, first_self w.stocks) }

-- one point fewer
pub stand_drop : (all kept : List Point) (t : Point) → ((v : Point) → Among v kept → Among v all) → ((v : Point) → Among v all → (v ≡ t) ⊎ Among v kept) → (IsVertex all t → (v : Point) × Among v kept × SamePlace v t × IsFirstOf v.stocks t.stocks) → StandFor all kept
stand_drop all kept t sub split cover = record {
  among = sub;
  covers = λ w m h. elim (split w m) [
    | inl e ↦ subst (λ y. IsVertex all y → (v : Point) × Among v kept × SamePlace v y × IsFirstOf v.stocks y.stocks) (sym e) cover h
    | inr k ↦ (w, k, same_self w, first_self w.stocks)
  ];
}

-- a vertex that costs no less and is no lower than another point stands at its place
beaten : (all : List Point) (t u : Point) → Among u all → u.cost ≤ t.cost → u.lo ≤ t.lo → IsVertex all t → SamePlace u t
beaten all t u m a b h = elim (h.at.alone u m) [
  | inl s ↦ s
  | inr l ↦ absurd (let k = weighted_no_less h.p h.q u.lo u.cost t.lo t.cost b a in omega (arith, l, k))
]

-- the last point of a list goes where its place is taken, or it is beaten
pub refuse : (xs : List Point) (t p : Point) → t.cost ≤ p.cost → t.lo ≤ p.lo → (SamePlace t p → IsFirstOf t.stocks p.stocks) → StandFor ((xs ++ t ∷ []) ++ p ∷ []) (xs ++ t ∷ [])
refuse xs t p a b f = stand_drop ((xs ++ t ∷ []) ++ p ∷ []) (xs ++ t ∷ []) p
    (λ v m. among_left v (xs ++ t ∷ []) (p ∷ []) m)
    (λ v m. elim (among_either v (xs ++ t ∷ []) (p ∷ []) m) [ inl k ↦ inr k | inr k ↦ elim k [ inl e ↦ inl e | inr n ↦ absurd n ] ])
    (λ h. let s = beaten ((xs ++ t ∷ []) ++ p ∷ []) p t (among_left t (xs ++ t ∷ []) (p ∷ []) (among_right t xs (t ∷ []) (inl refl))) a b h in
    (t, among_right t xs (t ∷ []) (inl refl), s, f s))

-- the last but one goes
drop_last : (xs : List Point) (t p : Point) → (IsVertex ((xs ++ t ∷ []) ++ p ∷ []) t → SamePlace p t × IsFirstOf p.stocks t.stocks) → StandFor ((xs ++ t ∷ []) ++ p ∷ []) (xs ++ p ∷ [])
drop_last xs t p f = stand_drop ((xs ++ t ∷ []) ++ p ∷ []) (xs ++ p ∷ []) t
    (λ v m. elim (among_either v xs (p ∷ []) m) [
      | inl k ↦ among_left v (xs ++ t ∷ []) (p ∷ []) (among_left v xs (t ∷ []) k)
      | inr k ↦ among_right v (xs ++ t ∷ []) (p ∷ []) k
    ])
    (λ v m. elim (among_either v (xs ++ t ∷ []) (p ∷ []) m) [
      | inl k ↦ elim (among_either v xs (t ∷ []) k) [ inl j ↦ inr (among_left v xs (p ∷ []) j) | inr j ↦ elim j [ inl e ↦ inl e | inr n ↦ absurd n ] ]
      | inr k ↦ inr (among_right v xs (p ∷ []) k)
    ])
    (λ h. let r = f h in (p, among_right p xs (p ∷ []) (inl refl), r.0, r.1))

-- the last but one may go where the last costs no more, is no higher, and has first stocks at the same place
pub drop_beaten : (xs : List Point) (t p : Point) → p.cost ≤ t.cost → p.lo ≤ t.lo → (SamePlace p t → IsFirstOf p.stocks t.stocks) → StandFor ((xs ++ t ∷ []) ++ p ∷ []) (xs ++ p ∷ [])
drop_beaten xs t p a b f = drop_last xs t p (λ h. let s = beaten ((xs ++ t ∷ []) ++ p ∷ []) t p (among_right p (xs ++ t ∷ []) (p ∷ []) (inl refl)) a b h in (s, f s))

-- lagrangian less than both ends of a step that doesn't turn
no_turn : (P Q bl bc tl tc pl pc : ℕ) → bc < tc → tl < bl → tc < pc → pl < tl → (tl - pl) * (tc - bc) < (bl - tl) * (pc - tc) ⊎ ((bl - tl) * (pc - tc) ≤ (tl - pl) * (tc - bc)) → Q * tl + P * tc < Q * bl + P * bc → Q * tl + P * tc < Q * pl + P * pc → (tl - pl) * (tc - bc) < (bl - tl) * (pc - tc)
no_turn P Q bl bc tl tc pl pc a b c d o x y = elim o [
  | inl l ↦ l
  | inr l ↦ absurd (cross P Q (bl - tl) (tc - bc) (tl - pl) (pc - tc) (omega arith) (omega arith) l
      (first (bl - tl) (tc - bc) (omega arith) (omega arith)) (second (tl - pl) (pc - tc) (omega arith) (omega arith)))
]
  where
    first : (f d : ℕ) → f + tl ≡ bl → d + bc ≡ tc → P * d < Q * f
    first f d e g =
        let u : Q * (f + tl) ≡ Q * bl = ap (λ z. Q * z) e in
        let v : P * (d + bc) ≡ P * tc = ap (λ z. P * z) g in
        omega arith

    second : (g e : ℕ) → g + pl ≡ tl → e + tc ≡ pc → Q * g < P * e
    second g e h i =
        let u : Q * (g + pl) ≡ Q * tl = ap (λ z. Q * z) h in
        let v : P * (e + tc) ≡ P * pc = ap (λ z. P * z) i in
        omega arith

    cross : (P Q f d g e : ℕ) → 0 < d → 0 < e → f * e ≤ g * d → P * d < Q * f → Q * g < P * e → ⊥
    cross P Q f d g e hd he l x y =
        let u : e * (P * d) < e * (Q * f) = mul-lt-mul_of_pos_left x he in
        let v : d * (Q * g) < d * (P * e) = mul-lt-mul_of_pos_left y hd in
        let w : Q * (f * e) ≤ Q * (g * d) = mul-le-mul_left Q l in
        omega arith

-- the last but one may go where the step from it falls as much per money as the step to it, or more
pub drop_straight : (xs : List Point) (b t p : Point) → Steps b t → t.cost < p.cost → p.lo < t.lo → (Turns b t p → ⊥) → StandFor (((xs ++ b ∷ []) ++ t ∷ []) ++ p ∷ []) ((xs ++ b ∷ []) ++ p ∷ [])
drop_straight xs b t p s c l n = drop_last (xs ++ b ∷ []) t p (λ h. absurd (n (turned h)))
  where
    all : List Point
    all = ((xs ++ b ∷ []) ++ t ∷ []) ++ p ∷ []

    turned : IsVertex (((xs ++ b ∷ []) ++ t ∷ []) ++ p ∷ []) t → Turns b t p
    turned h = elim (h.at.alone b (among_left b ((xs ++ b ∷ []) ++ t ∷ []) (p ∷ []) (among_left b (xs ++ b ∷ []) (t ∷ []) (among_right b xs (b ∷ []) (inl refl))))) [
      | inl e ↦ absurd (let k = e.cost in let j = s.cost in omega (arith, k, j))
      | inr u ↦ elim (h.at.alone p (among_right p ((xs ++ b ∷ []) ++ t ∷ []) (p ∷ []) (inl refl))) [
        | inl e ↦ absurd (let k = e.cost in omega (arith, k, c))
        | inr v ↦ no_turn h.p h.q b.lo b.cost t.lo t.cost p.lo p.cost s.cost s.lo c l (cases_lt ((t.lo - p.lo) * (t.cost - b.cost)) ((b.lo - t.lo) * (p.cost - t.cost))) u v
      ]
    ]

-- a chain goes on after its last point
pub push_second : (t p : Point) → Steps t p → IsChain ((t ∷ []) ++ p ∷ [])
push_second t p s = (s, tt, tt)

-- a chain goes on with a step that falls less per money than its last one
pub push_on : (xs : List Point) (b t p : Point) → IsChain ((xs ++ b ∷ []) ++ t ∷ []) → Steps t p → Turns b t p → IsChain (((xs ++ b ∷ []) ++ t ∷ []) ++ p ∷ [])
push_on [] b t p c s n = (c.0, n, (s, tt, tt))
push_on (x ∷ []) b t p c s n = (c.0, c.1, push_on [] b t p c.2 s n)
push_on (x ∷ y ∷ []) b t p c s n = (c.0, c.1, push_on (y ∷ []) b t p c.2 s n)
push_on (x ∷ y ∷ z ∷ xs) b t p c s n = (c.0, c.1, push_on (y ∷ z ∷ xs) b t p c.2 s n)

-- what a chain keeps where its last point goes
pub chain_front : (xs : List Point) (t : Point) → IsChain (xs ++ t ∷ []) → IsChain xs
chain_front [] t c = tt
chain_front (x ∷ []) t c = tt
chain_front (x ∷ y ∷ []) t c = (c.0, tt, tt)
chain_front (x ∷ y ∷ z ∷ xs) t c = (c.0, c.1, chain_front (y ∷ z ∷ xs) t c.2)

-- between the last two points of a chain the cost rises and the lower end falls
pub steps_last : (xs : List Point) (b t : Point) → IsChain ((xs ++ b ∷ []) ++ t ∷ []) → Steps b t
steps_last [] b t c = c.0
steps_last (x ∷ []) b t c = steps_last [] b t c.2
steps_last (x ∷ y ∷ xs) b t c = steps_last (y ∷ xs) b t c.2

-- the front of a chain, whatever went
pub chain_prefix : (xs ys : List Point) → IsChain (xs ++ ys) → IsChain xs
chain_prefix [] ys c = tt
chain_prefix (x ∷ []) ys c = tt
chain_prefix (x ∷ y ∷ []) ys c = (c.0, tt, tt)
chain_prefix (x ∷ y ∷ z ∷ xs) ys c = (c.0, c.1, chain_prefix (y ∷ z ∷ xs) ys c.2)
