-- A chain is the curve of its own points.
use Rattle.std.proofs.Common.{◌≡◌, ℕ, zero, suc, ◌+◌, ◌-◌, ◌*◌, ◌<◌, ◌⊎◌, inl, inr, List, [], ◌∷◌, refl, sym, ap, ◌∙◌, subst, arith}
use Rattle.std.proofs.Math.Nat.{mul-pos}
use Rattle.list_laws.proofs.Public.{fractions_fall}
use Rattle.hull.specs.declared.point.Point.{Point}
use Rattle.hull.specs.Curves.{lagrangian, SamePlace, Among, IsVertexAt, IsVertex, IsFirstOf, Rises, IsCurve, Steps, TurnsInto, IsChain}
use Rattle.hull.proofs.Stand.{same_self, same_lagrangian, first_self}

-- a price above a step makes its end dearer, one below its start
step_up : (p q vl vc wl wc : ℕ) → vc < wc → wl < vl → (vl - wl) * q < p * (wc - vc) → q * vl + p * vc < q * wl + p * wc
step_up p q vl vc wl wc a b h = moved (vl - wl) (wc - vc) (omega arith) (omega arith) h
  where
    moved : (f d : ℕ) → f + wl ≡ vl → d + vc ≡ wc → f * q < p * d → q * vl + p * vc < q * wl + p * wc
    moved f d e g k =
        let x : q * (f + wl) ≡ q * vl = ap (λ t. q * t) e in
        let y : p * (d + vc) ≡ p * wc = ap (λ t. p * t) g in
        omega arith

step_down : (p q vl vc wl wc : ℕ) → vc < wc → wl < vl → p * (wc - vc) < (vl - wl) * q → q * wl + p * wc < q * vl + p * vc
step_down p q vl vc wl wc a b h = moved (vl - wl) (wc - vc) (omega arith) (omega arith) h
  where
    moved : (f d : ℕ) → f + wl ≡ vl → d + vc ≡ wc → p * d < f * q → q * wl + p * wc < q * vl + p * vc
    moved f d e g k =
        let x : q * (f + wl) ≡ q * vl = ap (λ t. q * t) e in
        let y : p * (d + vc) ≡ p * wc = ap (λ t. p * t) g in
        omega arith

-- the first step of a list from v is flatter than p/q; where there is none, p is positive
abbrev pub Flatter : ℕ → ℕ → Point → List Point → Type 0
Flatter p q v [] = 0 < p
Flatter p q v (w ∷ rest) = (v.lo - w.lo) * q < p * (w.cost - v.cost)

flatter_next : (p q : ℕ) (v w : Point) (rest : List Point) → Steps v w → 0 < q → TurnsInto v w rest → Flatter p q v (w ∷ rest) → Flatter p q w rest
flatter_next p q v w [] s h t k = (positive (w.cost - v.cost) (v.lo - w.lo) k)
  where
    positive : (d f : ℕ) → f * q < p * d → 0 < p
    positive d f h = grind arith
flatter_next p q v w (x ∷ rest) s h t k = fractions_fall p q (v.lo - w.lo) (w.cost - v.cost) (w.lo - x.lo) (x.cost - w.cost) t k h

-- at such a price the head of a chain has a smaller Lagrangian than the rest
pub head_least : (p q : ℕ) (v : Point) (rest : List Point) → 0 < q → IsChain (v ∷ rest) → Flatter p q v rest → (w : Point) → Among w rest → lagrangian p q v < lagrangian p q w
head_least p q v [] hq c h w m = absurd m
head_least p q v (x ∷ rest) hq c h w m =
    let s : Steps v x = c.0 in
    let one : lagrangian p q v < lagrangian p q x = step_up p q v.lo v.cost x.lo x.cost s.cost s.lo h in
    elim m [
      | inl e ↦ subst (λ u. lagrangian p q v < lagrangian p q u) (sym e) one
      | inr n ↦ (let l = head_least p q x rest hq c.2 (flatter_next p q v x rest s hq c.1 h) w n in omega (arith, one, l))
    ]

-- a price below P/Q at which v is alone
pub record Alone (P Q : ℕ) (points : List Point) (v : Point) : Type 0 where
  pub p : ℕ
  pub q : ℕ
  pub below : p * Q < P * q
  pub at : IsVertexAt p q points v

turn_of : (P Q : ℕ) (u v : Point) (rest : List Point) → Steps u v → TurnsInto u v rest → Flatter (u.lo - v.lo) (v.cost - u.cost) v rest
turn_of P Q u v [] s t = (let l = s.lo in omega arith)
turn_of P Q u v (w ∷ rest) s t = t

mediant_below : (P Q f d : ℕ) → f * Q < P * d → (P + f) * Q < P * (Q + d)
mediant_below P Q f d h = omega arith

mediant_above : (P Q f d : ℕ) → f * Q < P * d → f * (Q + d) < (P + f) * d
mediant_above P Q f d h = omega arith

both_positive : (a b c : ℕ) → a < b * c → (0 < b) × (0 < c)
both_positive a b c h = (left b h, right c h)
  where
    left : (b : ℕ) → a < b * c → 0 < b
    left b h = grind arith

    right : (c : ℕ) → a < b * c → 0 < c
    right c h = grind arith

-- the same where c may be 0
pub falls_over : (f c g d h e : ℕ) → h * d < g * e → g * c < f * d → h * c < f * e
falls_over f zero g d h e x y =
    let fp : 0 < f = (both_positive (g * zero) f d y).0 in
    let ep : 0 < e = (both_positive (h * d) g e x).1 in
    let k : 0 < f * e = mul-pos fp ep in
    omega (arith, k)
falls_over f (suc c) g d h e x y = fractions_fall f (suc c) g d h e x y (omega arith)

alone_at_head : (P Q : ℕ) (u x : Point) (rest : List Point) → IsChain (u ∷ x ∷ rest) → Flatter P Q u (x ∷ rest) → (v : Point) → v ≡ u → Alone P Q (u ∷ x ∷ rest) v
alone_at_head P Q u x rest c h v e =
    let s : Steps u x = c.0 in
    let dpos : 0 < x.cost - u.cost = (let l = s.cost in omega arith) in
    let fpos : 0 < u.lo - x.lo = (let l = s.lo in omega arith) in
    record {
      p = P + (u.lo - x.lo);
      q = Q + (x.cost - u.cost);
      below = mediant_below P Q (u.lo - x.lo) (x.cost - u.cost) h;
      at = record {
        p_positive = omega (arith, fpos);
        q_positive = omega (arith, dpos);
        alone = λ w n. elim n [
          | inl a ↦ inl (subst (λ y. SamePlace w y) (sym e) (subst (λ y. SamePlace y u) (sym a) (same_self u)))
          | inr a ↦ inr (subst (λ y. lagrangian (P + (u.lo - x.lo)) (Q + (x.cost - u.cost)) y < lagrangian (P + (u.lo - x.lo)) (Q + (x.cost - u.cost)) w) (sym e)
              (head_least (P + (u.lo - x.lo)) (Q + (x.cost - u.cost)) u (x ∷ rest) (omega (arith, dpos)) c (mediant_above P Q (u.lo - x.lo) (x.cost - u.cost) h) w a))
        ];
      };
    }

alone_further : (P Q : ℕ) (u x : Point) (rest : List Point) → IsChain (u ∷ x ∷ rest) → Flatter P Q u (x ∷ rest) → (v : Point) → Alone (u.lo - x.lo) (x.cost - u.cost) (x ∷ rest) v → Alone P Q (u ∷ x ∷ rest) v
alone_further P Q u x rest c h v r =
    let s : Steps u x = c.0 in
    let down : lagrangian r.p r.q x < lagrangian r.p r.q u = step_down r.p r.q u.lo u.cost x.lo x.cost s.cost s.lo r.below in
    let to_x : SamePlace x v ⊎ (lagrangian r.p r.q v < lagrangian r.p r.q x) = r.at.alone x (inl refl) in
    let to_u : lagrangian r.p r.q v < lagrangian r.p r.q u = elim to_x [ inl t ↦ (let e = same_lagrangian r.p r.q t in omega (arith, e, down)) | inr l ↦ omega (arith, l, down) ] in
    record {
      p = r.p;
      q = r.q;
      below = falls_over P Q (u.lo - x.lo) (x.cost - u.cost) r.p r.q r.below h;
      at = record {
        p_positive = r.at.p_positive;
        q_positive = r.at.q_positive;
        alone = λ w k. elim k [ inl a ↦ inr (subst (λ y. lagrangian r.p r.q v < lagrangian r.p r.q y) (sym a) to_u) | inr a ↦ r.at.alone w a ];
      };
    }

pub alone_in_chain : (P Q : ℕ) (u : Point) (rest : List Point) → IsChain (u ∷ rest) → Flatter P Q u rest → (v : Point) → Among v (u ∷ rest) → Alone P Q (u ∷ rest) v
alone_in_chain P Q u [] c h v m = record {
  p = P;
  q = Q + 1;
  below = (let l : 0 < P = h in omega arith);
  at = record {
    p_positive = h;
    q_positive = omega arith;
    alone = λ w n. (let e : w ≡ v = elim n [ inl a ↦ elim m [ inl b ↦ a ∙ sym b | inr b ↦ absurd b ] | inr a ↦ absurd a ] in inl (subst (λ x. SamePlace x v) (sym e) (same_self v)));
  };
}
alone_in_chain P Q u (x ∷ rest) c h v m = elim m [
  | inl e ↦ alone_at_head P Q u x rest c h v e
  | inr n ↦ alone_further P Q u x rest c h v (alone_in_chain (u.lo - x.lo) (x.cost - u.cost) x rest c.2 (turn_of P Q u x rest c.0 c.1) v n)
]

-- a price above every step
steep : (u : Point) (rest : List Point) → IsChain (u ∷ rest) → Flatter 1 0 u rest
steep u [] c = omega arith
steep u (x ∷ rest) c = let s : Steps u x = c.0 in let l = s.cost in omega arith

chain_vertices : (points : List Point) → IsChain points → (v : Point) → Among v points → IsVertex points v
chain_vertices [] c v m = absurd m
chain_vertices (u ∷ rest) c v m =
    let r : Alone 1 0 (u ∷ rest) v = alone_in_chain 1 0 u rest c (steep u rest c) v m in
    record { p = r.p; q = r.q; at = r.at }

chain_rises : (points : List Point) → IsChain points → Rises points
chain_rises [] c = tt
chain_rises (v ∷ []) c = tt
chain_rises (v ∷ w ∷ rest) c = let s : Steps v w = c.0 in (s.cost, chain_rises (w ∷ rest) c.2)

-- in a list by rising cost each other point costs more than the head
pub rises_from_head : (u : Point) (rest : List Point) → Rises (u ∷ rest) → (w : Point) → Among w rest → u.cost < w.cost
rises_from_head u [] r w m = absurd m
rises_from_head u (x ∷ rest) r w m = elim m [
  | inl e ↦ subst (λ y. u.cost < y.cost) (sym e) r.0
  | inr n ↦ (let k = rises_from_head x rest r.1 w n in let l = r.0 in omega (arith, k, l))
]

-- in a chain each point costs more than the head
pub cost_from_head : (u : Point) (rest : List Point) → IsChain (u ∷ rest) → (w : Point) → Among w rest → u.cost < w.cost
cost_from_head u rest c = rises_from_head u rest (chain_rises (u ∷ rest) c)

-- two points of a chain at one place are one
chain_places : (points : List Point) → IsChain points → (v w : Point) → Among v points → Among w points → SamePlace w v → v ≡ w
chain_places [] c v w m n t = absurd m
chain_places (u ∷ rest) c v w m n t = elim m [
  | inl a ↦ elim n [
    | inl b ↦ a ∙ sym b
    | inr b ↦ absurd (let k = cost_from_head u rest c w b in let e = t.cost in let g : v.cost ≡ u.cost = ap (λ y. y.cost) a in omega (arith, k, e, g))
  ]
  | inr a ↦ elim n [
    | inl b ↦ absurd (let k = cost_from_head u rest c v a in let e = t.cost in let g : w.cost ≡ u.cost = ap (λ y. y.cost) b in omega (arith, k, e, g))
    | inr b ↦ chain_places rest (chain_tail u rest c) v w a b t
  ]
]
  where
    chain_tail : (u : Point) (rest : List Point) → IsChain (u ∷ rest) → IsChain rest
    chain_tail u [] c = tt
    chain_tail u (x ∷ rest) c = c.2

-- a chain is the curve of its own points
pub chain_is_curve : (points : List Point) → IsChain points → IsCurve points points
chain_is_curve points c = record {
  rises = chain_rises points c;
  among = λ v m. m;
  vertices = chain_vertices points c;
  firsts = λ v w m n t. subst (λ y. IsFirstOf v.stocks y.stocks) (chain_places points c v w m n t) (first_self v.stocks);
  complete = λ w m h. (w, m, same_self w);
}
