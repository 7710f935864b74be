-- Points that stand for others have their curve.
use Rattle.std.proofs.Common.{◌≡◌, ℕ, ◌+◌, ◌*◌, ◌<◌, ◌≤◌, ◌⊎◌, inl, inr, List, [], ◌∷◌, ◌++◌, refl, sym, ap, ◌∙◌, arith}
use Rattle.std.proofs.Math.Nat.{mul-le-mul_left}
use Rattle.hull.specs.declared.point.Point.{Point}
use Rattle.hull.specs.Curves.{lagrangian, SamePlace, Among, IsVertexAt, IsVertex, IsFirstOf, IsCurve, StandFor}
use Rattle.hull.proofs.Prices.{Leads, LowVertex, DeepVertex, low_vertex, deep_vertex, same_factor}

-- a point is at the place of those that are at its own
pub same_sym : {v w : Point} → SamePlace v w → SamePlace w v
same_sym s = record { cost = sym s.cost; lo = sym s.lo }

-- points at one place with a second are at one place with all that the second is
pub same_trans : {u v w : Point} → SamePlace u v → SamePlace v w → SamePlace u w
same_trans s t = record { cost = s.cost ∙ t.cost; lo = s.lo ∙ t.lo }

-- a point is at its own place
pub same_self : (v : Point) → SamePlace v v
same_self v = record { cost = refl; lo = refl }

-- points at one place have the same Lagrangian at each price
pub same_lagrangian : (p q : ℕ) {v w : Point} → SamePlace v w → lagrangian p q v ≡ lagrangian p q w
same_lagrangian p q {v} {w} s = ap (λ x. q * x + p * v.cost) s.lo ∙ ap (λ x. q * w.lo + p * x) s.cost

-- stocks come no later than themselves in the order of a dictionary
pub first_self : (xs : List ℕ) → IsFirstOf xs xs
first_self [] = tt
first_self (x ∷ xs) = inr (refl, first_self xs)

-- stocks that come no later than a second come no later than all that the second come no later than
pub first_trans : (xs ys zs : List ℕ) → IsFirstOf xs ys → IsFirstOf ys zs → IsFirstOf xs zs
first_trans [] ys zs h k = tt
first_trans (x ∷ xs) [] zs h k = absurd h
first_trans (x ∷ xs) (y ∷ ys) [] h k = absurd k
first_trans (x ∷ xs) (y ∷ ys) (z ∷ zs) h k = elim h [
  | inl a ↦ elim k [ inl b ↦ inl (omega arith) | inr b ↦ inl (let e = b.0 in omega arith) ]
  | inr a ↦ elim k [ inl b ↦ inl (let e = a.0 in omega arith) | inr b ↦ inr (a.0 ∙ b.0, first_trans xs ys zs a.1 b.1) ]
]

-- a point at a vertex's place is a vertex
pub vertex_at_place : (points : List Point) (v w : Point) → SamePlace v w → IsVertex points v → IsVertex points w
vertex_at_place points v w s h = record {
  p = h.p;
  q = h.q;
  at = record {
    p_positive = h.at.p_positive;
    q_positive = h.at.q_positive;
    alone = λ u m. elim (h.at.alone u m) [
      | inl t ↦ inl (same_trans t s)
      | inr l ↦ inr (let e = same_lagrangian h.p h.q s in omega (arith, l, e))
    ];
  };
}

-- a vertex of all is one of a part
pub vertex_of_part : (points part : List Point) (v : Point) → ((u : Point) → Among u part → Among u points) → IsVertex points v → IsVertex part v
vertex_of_part points part v sub h = record {
  p = h.p;
  q = h.q;
  at = record {
    p_positive = h.at.p_positive;
    q_positive = h.at.q_positive;
    alone = λ u m. h.at.alone u (sub u m);
  };
}

-- what is led by cost and by lower end is at the same place or lagrangian more
no_tie : (p q vc vl wc wl : ℕ) → 0 < p → 0 < q → q * vl + p * vc ≡ q * wl + p * wc → vc ≤ wc → vl ≤ wl → (wc ≡ vc) × (wl ≡ vl)
no_tie p q vc vl wc wl hp hq e a b =
    let k : q * vl ≤ q * wl = mul-le-mul_left q b in
    let l : p * vc ≤ p * wc = mul-le-mul_left p a in
    let c : p * vc ≡ p * wc = omega arith in
    let d : q * vl ≡ q * wl = omega arith in
    (sym (same_factor p vc wc hp c), sym (same_factor q vl wl hq d))

both_lead : (p q : ℕ) (v w : Point) → 0 < p → 0 < q → Leads (lagrangian p q) (λ u. u.cost) v w → Leads (lagrangian p q) (λ u. u.lo) v w → SamePlace w v ⊎ (lagrangian p q v < lagrangian p q w)
both_lead p q v w hp hq a b = elim a [
  | inl l ↦ inr l
  | inr x ↦ elim b [
    | inl l ↦ inr l
    | inr y ↦ inl (let t = no_tie p q v.cost v.lo w.cost w.lo hp hq x.0 x.1 y.1 in record { cost = t.0; lo = t.1 })
  ]
]

-- what a vertex leads, a point at the same place leads
lead_moved : (p q : ℕ) (f : Point → ℕ) (u v w : Point) → lagrangian p q u ≡ lagrangian p q v → f u ≡ f v → Leads (lagrangian p q) f u w → Leads (lagrangian p q) f v w
lead_moved p q f u v w e g h = elim h [
  | inl l ↦ inl (omega (arith, l, e))
  | inr x ↦ inr (sym e ∙ x.0, (let y = x.1 in omega (arith, y, g)))
]

lead_below : (p q : ℕ) (f : Point → ℕ) (u v w : Point) → lagrangian p q v < lagrangian p q u → Leads (lagrangian p q) f u w → lagrangian p q v < lagrangian p q w
lead_below p q f u v w l h = elim h [ inl k ↦ omega (arith, k, l) | inr x ↦ (let e = x.0 in omega (arith, e, l)) ]

module _ (kept : List Point) (p q : ℕ) (v : Point) (at : IsVertexAt p q kept v) where
  by_cost : (points : List Point) → StandFor points kept → (w : Point) → Among w points → Leads (lagrangian p q) (λ u. u.cost) v w ⊎ (lagrangian p q v < lagrangian p q w)
  by_cost [] s w m = absurd m
  by_cost (x ∷ xs) s w m =
      let r : LowVertex p q (x ∷ xs) = low_vertex p q x xs at.q_positive in
      let k = s.covers r.one r.among r.vertex in
      elim (at.alone k.0 k.1) [
        | inl t ↦ (let z : SamePlace r.one v = same_trans (same_sym k.2) t in inl (lead_moved p q (λ u. u.cost) r.one v w (same_lagrangian p q z) z.cost (r.leads w m)))
        | inr l ↦ inr (lead_below p q (λ u. u.cost) r.one v w (let e = same_lagrangian p q k.2 in omega (arith, l, e)) (r.leads w m))
      ]

  by_lo : (points : List Point) → StandFor points kept → (w : Point) → Among w points → Leads (lagrangian p q) (λ u. u.lo) v w ⊎ (lagrangian p q v < lagrangian p q w)
  by_lo [] s w m = absurd m
  by_lo (x ∷ xs) s w m =
      let r : DeepVertex p q (x ∷ xs) = deep_vertex p q x xs at.p_positive in
      let k = s.covers r.one r.among r.vertex in
      elim (at.alone k.0 k.1) [
        | inl t ↦ (let z : SamePlace r.one v = same_trans (same_sym k.2) t in inl (lead_moved p q (λ u. u.lo) r.one v w (same_lagrangian p q z) z.lo (r.leads w m)))
        | inr l ↦ inr (lead_below p q (λ u. u.lo) r.one v w (let e = same_lagrangian p q k.2 in omega (arith, l, e)) (r.leads w m))
      ]

  alone_of_all : (points : List Point) → StandFor points kept → (w : Point) → Among w points → SamePlace w v ⊎ (lagrangian p q v < lagrangian p q w)
  alone_of_all points s w m = elim (by_cost points s w m) [
    | inr l ↦ inr l
    | inl a ↦ elim (by_lo points s w m) [
      | inr l ↦ inr l
      | inl b ↦ both_lead p q v w at.p_positive at.q_positive a b
    ]
  ]

  vertex_of_all : (points : List Point) → StandFor points kept → IsVertexAt p q points v
  vertex_of_all points s = record { p_positive = at.p_positive; q_positive = at.q_positive; alone = alone_of_all points s }

-- The curve of points that stand for others is the curve of those.
pub stand_for : (points kept curve : List Point) → StandFor points kept → IsCurve kept curve → IsCurve points curve
stand_for points kept curve s c = record {
  rises = c.rises;
  among = λ v m. s.among v (c.among v m);
  vertices = vertices;
  firsts = λ v w m n t. (
      let k = s.covers w n (vertex_at_place points v w (same_sym t) (vertices v m)) in
      first_trans v.stocks k.0.stocks w.stocks (c.firsts v k.0 m k.1 (same_trans k.2 t)) k.3);
  complete = λ w n h. (
      let k = s.covers w n h in
      let g : IsVertex kept k.0 = vertex_of_part points kept k.0 s.among (vertex_at_place points w k.0 (same_sym k.2) h) in
      let r = c.complete k.0 k.1 g in
      (r.0, r.1, same_trans r.2 k.2));
}
  where
    vertices : (v : Point) → Among v curve → IsVertex points v
    vertices v m = let h : IsVertex kept v = c.vertices v m in record { p = h.p; q = h.q; at = vertex_of_all kept h.p h.q v h.at points s }

-- what stands in the first of two lists stands in both together
pub among_left : {X : Type 0} (x : X) (xs ys : List X) → Among x xs → Among x (xs ++ ys)
among_left x [] ys h = absurd h
among_left x (y ∷ xs) ys h = elim h [ inl e ↦ inl e | inr m ↦ inr (among_left x xs ys m) ]

-- what stands in the second of two lists stands in both together
pub among_right : {X : Type 0} (x : X) (xs ys : List X) → Among x ys → Among x (xs ++ ys)
among_right x [] ys h = h
among_right x (y ∷ xs) ys h = inr (among_right x xs ys h)

-- what stands in two lists together stands in one of them
pub among_either : {X : Type 0} (x : X) (xs ys : List X) → Among x (xs ++ ys) → Among x xs ⊎ Among x ys
among_either x [] ys h = inr h
among_either x (y ∷ xs) ys h = elim h [
  | inl e ↦ inl (inl e)
  | inr m ↦ elim (among_either x xs ys m) [ inl a ↦ inl (inr a) | inr b ↦ inr b ]
]

-- the points of a curve stand for those that it is of
pub curve_stands : (points curve : List Point) → IsCurve points curve → StandFor points curve
curve_stands points curve c = record {
  among = c.among;
  covers = λ w m h. (let r = c.complete w m h in (r.0, r.1, r.2, c.firsts r.0 w r.1 m (same_sym r.2)));
}

-- what stands for each part stands for both
pub stand_for_both : (ps qs c d : List Point) → StandFor ps c → StandFor qs d → StandFor (ps ++ qs) (c ++ d)
stand_for_both ps qs c d s t = record {
  among = λ v m. elim (among_either v c d m) [ inl a ↦ among_left v ps qs (s.among v a) | inr b ↦ among_right v ps qs (t.among v b) ];
  covers = λ w m h. elim (among_either w ps qs m) [
    | inl a ↦ (let k = s.covers w a (vertex_of_part (ps ++ qs) ps w (λ u. among_left u ps qs) h) in (k.0, among_left k.0 c d k.1, k.2, k.3))
    | inr b ↦ (let k = t.covers w b (vertex_of_part (ps ++ qs) qs w (λ u. among_right u ps qs) h) in (k.0, among_right k.0 c d k.1, k.2, k.3))
  ];
}

-- the curve of what two curves have together is the curve of all their points
pub curve_of_both : (ps qs c d e : List Point) → IsCurve ps c → IsCurve qs d → IsCurve (c ++ d) e → IsCurve (ps ++ qs) e
curve_of_both ps qs c d e a b h = stand_for (ps ++ qs) (c ++ d) e (stand_for_both ps qs c d (curve_stands ps c a) (curve_stands qs d b)) h
