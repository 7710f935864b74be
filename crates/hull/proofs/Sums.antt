-- A vertex of all sums is the sum of one vertex of each.
use Rattle.std.proofs.Common.{◌≡◌, ℕ, suc, ◌+◌, ◌-◌, ◌*◌, ◌<◌, ◌≤◌, ◌⊎◌, inl, inr, List, [], ◌∷◌, ◌++◌, length, get_or, drop, refl, sym, ap, ◌∙◌, subst, arith, length-append}
use Rattle.list_laws.proofs.Public.{fraction_below}
use Rattle.hull.specs.declared.point.Point.{Point}
use Rattle.hull.specs.Curves.{lagrangian, SamePlace, Among, IsVertexAt, IsVertex, IsFirstOf, StandFor, Steps, IsChain, plus, plus_each, sums}
use Rattle.hull.specs.Verdicts.{Blocks, LeadsTo}
use Rattle.hull.specs.declared.walk.Turn.TheVariants.{Left, Right, End}
use Rattle.hull.proofs.Stand.{same_self, same_lagrangian, first_self, among_left, among_right, among_either}
use Rattle.hull.proofs.Chains.{head_least}
use Rattle.hull.proofs.Joined.{chain_rest}

-- two points that a sum is of
pub record Parts (vs ws : List Point) (s : Point) : Type 0 where
  pub first : Point
  pub second : Point
  pub first_in : Among first vs
  pub second_in : Among second ws
  pub is : s ≡ plus first second

each_parts : (v : Point) (ws : List Point) (s : Point) → Among s (plus_each v ws) → (w : Point) × Among w ws × (s ≡ plus v w)
each_parts v [] s m = absurd m
each_parts v (w ∷ ws) s m = elim m [ inl e ↦ (w, inl refl, e) | inr n ↦ (let r = each_parts v ws s n in (r.0, inr r.1, r.2)) ]

-- each of the sums is the sum of a point of the one list and one of the other
pub parts_of : (vs ws : List Point) (s : Point) → Among s (sums vs ws) → Parts vs ws s
parts_of [] ws s m = absurd m
parts_of (v ∷ vs) ws s m = elim (among_either s (plus_each v ws) (sums vs ws) m) [
  | inl a ↦ (let r = each_parts v ws s a in record { first = v; second = r.0; first_in = inl refl; second_in = r.1; is = r.2 })
  | inr b ↦ (let r : Parts vs ws s = parts_of vs ws s b in record { first = r.first; second = r.second; first_in = inr r.first_in; second_in = r.second_in; is = r.is })
]

each_among : (v w : Point) (ws : List Point) → Among w ws → Among (plus v w) (plus_each v ws)
each_among v w [] m = absurd m
each_among v w (x ∷ ws) m = elim m [ inl e ↦ inl (ap (plus v) e) | inr n ↦ inr (each_among v w ws n) ]

-- the sum of a point of the one list and one of the other is among the sums
pub sum_among : (v w : Point) (vs ws : List Point) → Among v vs → Among w ws → Among (plus v w) (sums vs ws)
sum_among v w [] ws m n = absurd m
sum_among v w (x ∷ vs) ws m n = elim m [
  | inl e ↦ subst (λ y. Among (plus v w) (plus_each y ws ++ sums vs ws)) e (among_left (plus v w) (plus_each v ws) (sums vs ws) (each_among v w ws n))
  | inr k ↦ among_right (plus v w) (plus_each x ws) (sums vs ws) (sum_among v w vs ws k n)
]

-- a vertex of the sums is a vertex of each at its price
module _ (p q : ℕ) (vs ws : List Point) (v w : Point) (v_in : Among v vs) (w_in : Among w ws) (at : IsVertexAt p q (sums vs ws) (plus v w)) where
  -- the part of the first list is a vertex of that list at the price
  pub first_at : IsVertexAt p q vs v
  first_at = record {
    p_positive = at.p_positive;
    q_positive = at.q_positive;
    alone = λ x m. elim (at.alone (plus x w) (sum_among x w vs ws m w_in)) [
      | inl s ↦ inl (let a = s.cost in let b = s.lo in record { cost = omega (arith, a); lo = omega (arith, b) })
      | inr l ↦ inr (omega (arith, l))
    ];
  }

  -- the part of the second list is a vertex of that list at the price
  pub second_at : IsVertexAt p q ws w
  second_at = record {
    p_positive = at.p_positive;
    q_positive = at.q_positive;
    alone = λ x m. elim (at.alone (plus v x) (sum_among v x vs ws v_in m)) [
      | inl s ↦ inl (let a = s.cost in let b = s.lo in record { cost = omega (arith, a); lo = omega (arith, b) })
      | inr l ↦ inr (omega (arith, l))
    ];
  }

-- where parts of one length are first, what they are joined to is first
pub first_joined : (xs ys us ws : List ℕ) → length xs ≡ length ys → IsFirstOf xs ys → IsFirstOf us ws → IsFirstOf (xs ++ us) (ys ++ ws)
first_joined [] [] us ws n a b = b
first_joined [] (y ∷ ys) us ws n a b = absurd (let k : 0 ≡ suc (length ys) = n in omega arith)
first_joined (x ∷ xs) [] us ws n a b = absurd a
first_joined (x ∷ xs) (y ∷ ys) us ws n a b = elim a [
  | inl l ↦ inl l
  | inr r ↦ inr (r.0, first_joined xs ys us ws (let k : suc (length xs) ≡ suc (length ys) = n in omega arith) r.1 b)
]

-- What stands for each of two lists has sums that stand for theirs: the first stocks too.
pub stand_for_sums : (ps qs c d : List Point) → StandFor ps c → StandFor qs d → ((v w : Point) → Among v ps → Among w ps → length v.stocks ≡ length w.stocks) → StandFor (sums ps qs) (sums c d)
stand_for_sums ps qs c d s t widths = record {
  among = λ x m. (let r : Parts c d x = parts_of c d x m in subst (λ y. Among y (sums ps qs)) (sym r.is) (sum_among r.first r.second ps qs (s.among r.first r.first_in) (t.among r.second r.second_in)));
  covers = λ x m h. (let r : Parts ps qs x = parts_of ps qs x m in covered x r h);
}
  where
    covered : (x : Point) → Parts ps qs x → IsVertex (sums ps qs) x → (v : Point) × Among v (sums c d) × SamePlace v x × IsFirstOf v.stocks x.stocks
    covered x r h =
        let at : IsVertexAt h.p h.q (sums ps qs) (plus r.first r.second) = subst (λ y. IsVertexAt h.p h.q (sums ps qs) y) r.is h.at in
        let a = s.covers r.first r.first_in (record { p = h.p; q = h.q; at = first_at h.p h.q ps qs r.first r.second r.first_in r.second_in at }) in
        let b = t.covers r.second r.second_in (record { p = h.p; q = h.q; at = second_at h.p h.q ps qs r.first r.second r.first_in r.second_in at }) in
        let place : SamePlace (plus a.0 b.0) (plus r.first r.second) = (let ac = a.2.cost in let al = a.2.lo in let bc = b.2.cost in let bl = b.2.lo in record { cost = omega (arith, ac, bc); lo = omega (arith, al, bl) }) in
        let first : IsFirstOf (a.0.stocks ++ b.0.stocks) (r.first.stocks ++ r.second.stocks) = first_joined a.0.stocks r.first.stocks b.0.stocks r.second.stocks (widths a.0 r.first (s.among a.0 a.1) r.first_in) a.3 b.3 in
        (plus a.0 b.0, sum_among a.0 b.0 c d a.1 b.1, subst (λ y. SamePlace (plus a.0 b.0) y) (sym r.is) place, subst (λ y. IsFirstOf (a.0.stocks ++ b.0.stocks) y.stocks) (sym r.is) first)

-- a path has passed the sums that it may leave: each vertex's parts are on it, or both still to come
pub record Passed (a b path left right : List Point) : Type 0 where
  pub among : (s : Point) → Among s path → Among s (sums a b)
  pub left_in : (v : Point) → Among v left → Among v a
  pub right_in : (w : Point) → Among w right → Among w b
  pub or_ahead : (p q : ℕ) (v w : Point) → Among v a → Among w b → IsVertexAt p q a v → IsVertexAt p q b w → Among (plus v w) path ⊎ (Among v left × Among w right)

-- at a price where v is alone in a chain from v, the first step falls less
pub first_falls : (p q vl vc wl wc : ℕ) → vc < wc → wl < vl → q * vl + p * vc < q * wl + p * wc → (vl - wl) * q < p * (wc - vc)
first_falls p q vl vc wl wc a b h = moved (vl - wl) (wc - vc) (omega arith) (omega arith)
  where
    moved : (f d : ℕ) → f + wl ≡ vl → d + vc ≡ wc → f * q < p * d
    moved f d e g =
        let x : q * (f + wl) ≡ q * vl = ap (λ t. q * t) e in
        let y : p * (d + vc) ≡ p * wc = ap (λ t. p * t) g in
        omega arith

-- the head is alone in its chain: another chain whose first step falls no more per money has no vertex past its head
module _ (p q : ℕ) (v x : Point) (ms : List Point) (u y : Point) (ns : List Point) (ca : IsChain (v ∷ x ∷ ms)) (cb : IsChain (u ∷ y ∷ ns)) (steeper : (u.lo - y.lo) * (x.cost - v.cost) ≤ (v.lo - x.lo) * (y.cost - u.cost)) where
  not_past : IsVertexAt p q (v ∷ x ∷ ms) v → (w : Point) → Among w (y ∷ ns) → IsVertexAt p q (u ∷ y ∷ ns) w → ⊥
  not_past av w m aw =
      let sa : Steps v x = ca.0 in
      let sb : Steps u y = cb.0 in
      let dearer : lagrangian p q v < lagrangian p q x = elim (av.alone x (inr (inl refl))) [ inl e ↦ absurd (let k = e.cost in let l = sa.cost in omega (arith, k, l)) | inr l ↦ l ] in
      let flat : (v.lo - x.lo) * q < p * (x.cost - v.cost) = first_falls p q v.lo v.cost x.lo x.cost sa.cost sa.lo dearer in
      let rise : 0 < y.cost - u.cost = (let l = sb.cost in omega (arith, l)) in
      let other : (u.lo - y.lo) * q < p * (y.cost - u.cost) = fraction_below (v.lo - x.lo) (x.cost - v.cost) (u.lo - y.lo) (y.cost - u.cost) p q steeper flat rise in
      let less : lagrangian p q u < lagrangian p q w = head_least p q u (y ∷ ns) aw.q_positive cb other w m in
      elim (aw.alone u (inl refl)) [
        | inl e ↦ (let z : lagrangian p q u ≡ lagrangian p q w = same_lagrangian p q e in omega (arith, less, z))
        | inr l ↦ omega (arith, less, l)
      ]

part_at : (p q : ℕ) (points part : List Point) (v : Point) → ((u : Point) → Among u part → Among u points) → IsVertexAt p q points v → IsVertexAt p q part v
part_at p q points part v sub at = record { p_positive = at.p_positive; q_positive = at.q_positive; alone = λ u m. at.alone u (sub u m) }

pub blocks_steep : (v x : Point) (ms : List Point) (u y : Point) (ns : List Point) → IsChain (v ∷ x ∷ ms) → IsChain (u ∷ y ∷ ns) → (u.lo - y.lo) * (x.cost - v.cost) ≤ (v.lo - x.lo) * (y.cost - u.cost) → Blocks (v ∷ x ∷ ms) v (u ∷ y ∷ ns) (y ∷ ns)
blocks_steep v x ms u y ns ca cb h p q av w m aw = not_past p q v x ms u y ns ca cb h av w m aw

pub blocks_none : (left right : List Point) (v : Point) → Blocks left v right []
blocks_none left right v p q av w m aw = m

module _ (a b path : List Point) (v : Point) (ls : List Point) (u : Point) (rs : List Point) (now : Passed a b path (v ∷ ls) (u ∷ rs)) where
  here : (s : Point) → Among s (path ++ plus v u ∷ []) → Among s (sums a b)
  here s m = elim (among_either s path (plus v u ∷ []) m) [
    | inl k ↦ now.among s k
    | inr k ↦ elim k [ inl e ↦ subst (λ z. Among z (sums a b)) (sym e) (sum_among v u a b (now.left_in v (inl refl)) (now.right_in u (inl refl))) | inr n ↦ absurd n ]
  ]

  both_heads : (x w : Point) → x ≡ v → w ≡ u → Among (plus x w) (path ++ plus v u ∷ [])
  both_heads x w e g = among_right (plus x w) path (plus v u ∷ []) (inl (ap (λ z. plus z w) e ∙ ap (plus v) g))

  pub advance_left : Blocks (v ∷ ls) v (u ∷ rs) rs → Passed a b (path ++ plus v u ∷ []) ls (u ∷ rs)
  advance_left blocks = record {
    among = here;
    left_in = λ x m. now.left_in x (inr m);
    right_in = now.right_in;
    or_ahead = λ p q x w m n ax aw. elim (now.or_ahead p q x w m n ax aw) [
      | inl k ↦ inl (among_left (plus x w) path (plus v u ∷ []) k)
      | inr k ↦ elim k.0 [
        | inr l ↦ inr (l, k.1)
        | inl e ↦ elim k.1 [
          | inl g ↦ inl (both_heads x w e g)
          | inr r ↦ absurd (blocks p q (subst (λ z. IsVertexAt p q (v ∷ ls) z) e (part_at p q a (v ∷ ls) x now.left_in ax)) w r (part_at p q b (u ∷ rs) w now.right_in aw))
        ]
      ]
    ];
  }

  pub advance_right : Blocks (u ∷ rs) u (v ∷ ls) ls → Passed a b (path ++ plus v u ∷ []) (v ∷ ls) rs
  advance_right blocks = record {
    among = here;
    left_in = now.left_in;
    right_in = λ x m. now.right_in x (inr m);
    or_ahead = λ p q x w m n ax aw. elim (now.or_ahead p q x w m n ax aw) [
      | inl k ↦ inl (among_left (plus x w) path (plus v u ∷ []) k)
      | inr k ↦ elim k.1 [
        | inr l ↦ inr (k.0, l)
        | inl g ↦ elim k.0 [
          | inl e ↦ inl (both_heads x w e g)
          | inr r ↦ absurd (blocks p q (subst (λ z. IsVertexAt p q (u ∷ rs) z) g (part_at p q b (u ∷ rs) w now.right_in aw)) x r (part_at p q a (v ∷ ls) x now.left_in ax))
        ]
      ]
    ];
  }

-- where nothing is to come, the path stands for all sums
pub path_stands : (a b path left right : List Point) → Passed a b path left right → ((v w : Point) → Among v left → Among w right → ⊥) → StandFor (sums a b) path
path_stands a b path left right now none = record {
  among = now.among;
  covers = λ s m h. (let r : Parts a b s = parts_of a b s m in found s r h);
}
  where
    found : (s : Point) → Parts a b s → IsVertex (sums a b) s → (v : Point) × Among v path × SamePlace v s × IsFirstOf v.stocks s.stocks
    found s r h =
        let at : IsVertexAt h.p h.q (sums a b) (plus r.first r.second) = subst (λ y. IsVertexAt h.p h.q (sums a b) y) r.is h.at in
        let k : Among (plus r.first r.second) path = elim (now.or_ahead h.p h.q r.first r.second r.first_in r.second_in
        (first_at h.p h.q a b r.first r.second r.first_in r.second_in at) (second_at h.p h.q a b r.first r.second r.first_in r.second_in at)) [
          | inl x ↦ x
          | inr x ↦ absurd (none r.first r.second x.0 x.1)
        ] in
        (s, subst (λ y. Among y path) (sym r.is) k, same_self s, first_self s.stocks)

pub path_begins : (a b : List Point) → Passed a b [] a b
path_begins a b = record { among = λ s m. absurd m; left_in = λ v m. m; right_in = λ v m. m; or_ahead = λ p q v w m n av aw. inr (m, n) }

chain_two : (a b : Point) (ls : List Point) (v x : Point) → v ≡ a → x ≡ b → IsChain (a ∷ b ∷ ls) → IsChain (v ∷ x ∷ ls)
chain_two a b ls v x e g c = subst (λ z. IsChain (z ∷ x ∷ ls)) (sym e) (subst (λ z. IsChain (a ∷ z ∷ ls)) (sym g) c)

-- where the first step of the left chain falls as much per money or more, the walk goes on to the left
pub turned_left : (left right : List Point) (v x u y : Point) → 2 ≤ length left → 2 ≤ length right → v ≡ get_or left 0 v → x ≡ get_or left 1 x → u ≡ get_or right 0 u → y ≡ get_or right 1 y
    → IsChain left → IsChain right → (u.lo - y.lo) * (x.cost - v.cost) ≤ (v.lo - x.lo) * (y.cost - u.cost) → LeadsTo left right Left
turned_left [] right v x u y m n e f g h ca cb s = absurd (let k : 2 ≤ 0 = m in omega arith)
turned_left (a ∷ []) right v x u y m n e f g h ca cb s = absurd (let k : 2 ≤ 1 = m in omega arith)
turned_left (a ∷ b ∷ ls) [] v x u y m n e f g h ca cb s = absurd (let k : 2 ≤ 0 = n in omega arith)
turned_left (a ∷ b ∷ ls) (c ∷ []) v x u y m n e f g h ca cb s = absurd (let k : 2 ≤ 1 = n in omega arith)
turned_left (a ∷ b ∷ ls) (c ∷ d ∷ rs) v x u y m n e f g h ca cb s = (
  omega arith,
  subst (λ z. Blocks (z ∷ b ∷ ls) z (c ∷ d ∷ rs) (d ∷ rs)) e
      (subst (λ z. Blocks (v ∷ z ∷ ls) v (c ∷ d ∷ rs) (d ∷ rs)) f
      (subst (λ z. Blocks (v ∷ x ∷ ls) v (z ∷ d ∷ rs) (d ∷ rs)) g
      (subst (λ z. Blocks (v ∷ x ∷ ls) v (u ∷ z ∷ rs) (z ∷ rs)) h
      (blocks_steep v x ls u y rs (chain_two a b ls v x e f ca) (chain_two c d rs u y g h cb) s)))),
)

-- where the first step of the right chain falls as much per money or more, the walk goes on to the right
pub turned_right : (left right : List Point) (v x u y : Point) → 2 ≤ length left → 2 ≤ length right → v ≡ get_or left 0 v → x ≡ get_or left 1 x → u ≡ get_or right 0 u → y ≡ get_or right 1 y
    → IsChain left → IsChain right → (v.lo - x.lo) * (y.cost - u.cost) ≤ (u.lo - y.lo) * (x.cost - v.cost) → LeadsTo left right Right
turned_right [] right v x u y m n e f g h ca cb s = absurd (let k : 2 ≤ 0 = m in omega arith)
turned_right (a ∷ []) right v x u y m n e f g h ca cb s = absurd (let k : 2 ≤ 1 = m in omega arith)
turned_right (a ∷ b ∷ ls) [] v x u y m n e f g h ca cb s = absurd (let k : 2 ≤ 0 = n in omega arith)
turned_right (a ∷ b ∷ ls) (c ∷ []) v x u y m n e f g h ca cb s = absurd (let k : 2 ≤ 1 = n in omega arith)
turned_right (a ∷ b ∷ ls) (c ∷ d ∷ rs) v x u y m n e f g h ca cb s = (
  omega arith,
  subst (λ z. Blocks (z ∷ d ∷ rs) z (a ∷ b ∷ ls) (b ∷ ls)) g
      (subst (λ z. Blocks (u ∷ z ∷ rs) u (a ∷ b ∷ ls) (b ∷ ls)) h
      (subst (λ z. Blocks (u ∷ y ∷ rs) u (z ∷ b ∷ ls) (b ∷ ls)) e
      (subst (λ z. Blocks (u ∷ y ∷ rs) u (v ∷ z ∷ ls) (z ∷ ls)) f
      (blocks_steep u y rs v x ls (chain_two c d rs u y g h cb) (chain_two a b ls v x e f ca) s)))),
)

-- where the right chain has but one point, the walk goes on to the left
pub turned_alone : (left right : List Point) → 2 ≤ length left → 0 < length right → length right < 2 → LeadsTo left right Left
turned_alone [] right m n o = absurd (let k : 2 ≤ 0 = m in omega arith)
turned_alone (a ∷ ls) [] m n o = absurd (let k : 0 < 0 = n in omega arith)
turned_alone (a ∷ ls) (c ∷ []) m n o = (omega arith, blocks_none (a ∷ ls) (c ∷ []) a)
turned_alone (a ∷ ls) (c ∷ d ∷ rs) m n o = absurd (let k : length (c ∷ d ∷ rs) < 2 = o in omega arith)

-- a walk through the sums of two chains
pub record Walked (a b path left right : List Point) : Type 0 where
  pub passed : Passed a b path left right
  pub left_chain : IsChain left
  pub right_chain : IsChain right
  pub left_some : 0 < length left
  pub right_some : 0 < length right
  pub few : length path + length left + length right ≤ length a + length b

-- at the start of both curves nothing is behind the walk
pub walk_begins : (a b : List Point) → IsChain a → IsChain b → 0 < length a → 0 < length b → Walked a b [] a b
walk_begins a b c d m n = record { passed = path_begins a b; left_chain = c; right_chain = d; left_some = m; right_some = n; few = omega arith }

-- a sum of the first points, and a turn
pub walk_left : (a b path left right : List Point) (d e : Point) → Walked a b path left right → LeadsTo left right Left → Walked a b (path ++ plus (get_or left 0 d) (get_or right 0 e) ∷ []) (drop 1 left) right
walk_left a b path [] right d e w t = absurd t
walk_left a b path (v ∷ ls) [] d e w t = absurd t
walk_left a b path (v ∷ ls) (u ∷ rs) d e w t = record {
  passed = advance_left a b path v ls u rs w.passed t.1;
  left_chain = chain_rest v ls w.left_chain;
  right_chain = w.right_chain;
  left_some = t.0;
  right_some = w.right_some;
  few = (let k = w.few in omega (arith, k, length-append path (plus v u ∷ [])));
}

pub walk_right : (a b path left right : List Point) (d e : Point) → Walked a b path left right → LeadsTo left right Right → Walked a b (path ++ plus (get_or left 0 d) (get_or right 0 e) ∷ []) left (drop 1 right)
walk_right a b path [] right d e w t = absurd t
walk_right a b path (v ∷ ls) [] d e w t = absurd t
walk_right a b path (v ∷ ls) (u ∷ rs) d e w t = record {
  passed = advance_right a b path v ls u rs w.passed t.1;
  left_chain = w.left_chain;
  right_chain = chain_rest u rs w.right_chain;
  left_some = w.left_some;
  right_some = t.0;
  few = (let k = w.few in omega (arith, k, length-append path (plus v u ∷ [])));
}

pub walk_ends : (a b path left right : List Point) (d e : Point) → Walked a b path left right → LeadsTo left right End → StandFor (sums a b) (path ++ plus (get_or left 0 d) (get_or right 0 e) ∷ [])
walk_ends a b path [] right d e w t = absurd t
walk_ends a b path (v ∷ ls) [] d e w t = absurd t
walk_ends a b path (v ∷ []) (u ∷ rs) d e w t =
    path_stands a b (path ++ plus v u ∷ []) [] (u ∷ rs) (advance_left a b path v [] u rs w.passed (no_second rs t.1)) (λ x y m n. m)
  where
    no_second : (rs : List Point) → length rs ≡ 0 → Blocks (v ∷ []) v (u ∷ rs) rs
    no_second [] e = blocks_none (v ∷ []) (u ∷ []) v
    no_second (y ∷ rs) e = absurd (let k : suc (length rs) ≡ 0 = e in omega arith)
walk_ends a b path (v ∷ x ∷ ls) (u ∷ rs) d e w t = absurd (let k : suc (length ls) ≡ 0 = t.0 in omega arith)

-- the same by what the code has read and pushed
module _ (a b path left right : List Point) (v u s : Point) (made : List Point) (v_is : v ≡ get_or left 0 v) (u_is : u ≡ get_or right 0 u) (s_is : s ≡ plus v u) (made_is : made ≡ path ++ s ∷ []) (w : Walked a b path left right) where
  pushed : path ++ plus (get_or left 0 v) (get_or right 0 u) ∷ [] ≡ made
  pushed = ap (λ z. path ++ z ∷ []) (sym (s_is ∙ ap (λ z. plus z u) v_is ∙ ap (λ z. plus (get_or left 0 v) z) u_is)) ∙ sym made_is

  -- a turn to the left leads on to the left list's next point
  pub goes_left : (rest : List Point) → rest ≡ drop 1 left → LeadsTo left right Left → Walked a b made rest right
  goes_left rest e t = subst (λ z. Walked a b made z right) (sym e) (subst (λ z. Walked a b z (drop 1 left) right) pushed (walk_left a b path left right v u w t))

  -- a turn to the right leads on to the right list's next point
  pub goes_right : (rest : List Point) → rest ≡ drop 1 right → LeadsTo left right Right → Walked a b made left rest
  goes_right rest e t = subst (λ z. Walked a b made left z) (sym e) (subst (λ z. Walked a b z left (drop 1 right)) pushed (walk_right a b path left right v u w t))

  -- at the end the points that were made stand for all sums
  pub goes_to_end : LeadsTo left right End → StandFor (sums a b) made
  goes_to_end t = subst (λ z. StandFor (sums a b) z) pushed (walk_ends a b path left right v u w t)
