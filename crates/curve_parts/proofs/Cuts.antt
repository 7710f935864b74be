-- A curve cut at two prices is its part between them.
use Rattle.std.proofs.Common.{◌≡◌, ℕ, zero, suc, ◌+◌, ◌-◌, ◌*◌, ◌<◌, ◌≤◌, inl, inr, List, [], ◌∷◌, ◌++◌, length, get_or, refl, sym, ap, ◌∙◌, subst, arith, append_assoc}
use Rattle.std.proofs.Math.Nat.{mul-le-mul_left, mul-lt-mul_of_pos_left, lt_of_mul-lt-mul_left, le_of_mul-le-mul_left}
use Rattle.std.proofs.lemmas.Bool.{cases_lt}
use Rattle.hull.specs.declared.point.Point.{Point}
use Rattle.hull.specs.declared.price.Price.{Price}
use Rattle.hull.specs.Curves.{lagrangian, Among, IsCurve, IsLeastAt, IsChain, Steps, StopsAt}
use Rattle.hull.proofs.Public.{same_self, among_left, among_right, among_either, chain_prefix, Flatter, head_least, chain_is_curve, chain_suffix, least_at_stop}
use Rattle.curve_parts.specs.Parts.{IsPriceBetween, IsPartOf, StandForBetween}
use Rattle.curve_parts.specs.Cuts.{IsWindow, AreSteeper, AreFlatter, AreBetween, IsCutOf}
use Rattle.curve_parts.proofs.Between.{beaten_between, part_of_standing}

-- ---- prices of steps

-- a price from low to high
pub window_price : (low high : Price) → IsWindow low high → IsPriceBetween low high (low.p + high.p) (low.q + high.q)
window_price low high w = record {
  p_positive = (let h = w.steep in omega (arith, h));
  q_positive = (let h = w.money in omega (arith, h));
  from = (let h = w.order in omega (arith, h));
  to = (let h = w.order in omega (arith, h));
}

-- a step that falls no less per money than a price falls more than one that is behind it in a chain
before_falls : (p q f d g e : ℕ) → 0 < q → g * d < f * e → p * e ≤ g * q → p * d ≤ f * q
before_falls p q f d g e h t k =
    let x : q * (g * d) < q * (f * e) = mul-lt-mul_of_pos_left t h in
    let y : d * (p * e) ≤ d * (g * q) = mul-le-mul_left d k in
    let z : e * (p * d) < e * (f * q) = omega (arith, x, y) in
    let l : p * d < f * q = lt_of_mul-lt-mul_left e z in
    omega (arith, l)

-- where a chain stops at the price of its own step, behind it
record Stop (low high : Price) (u w : Point) (rest : List Point) (x : Point) : Type 0 where
  p : ℕ
  q : ℕ
  k : ℕ
  between : IsPriceBetween low high p q
  stops : StopsAt p q (u ∷ w ∷ rest) (suc k)
  is : get_or (w ∷ rest) k x ≡ x

stop_at : (low high : Price) (u w : Point) (rest : List Point) → IsChain (u ∷ w ∷ rest) → AreBetween low high (u ∷ w ∷ rest) → (x : Point) → Among x (w ∷ rest) → Stop low high u w rest x
stop_at low high u w [] c b x m = elim m [
  | inl e ↦ record { p = u.lo - w.lo; q = w.cost - u.cost; k = zero; between = b.0; stops = (omega arith, tt); is = sym e }
  | inr n ↦ absurd n
]
stop_at low high u w (y ∷ rest) c b x m = elim m [
  | inl e ↦ record { p = u.lo - w.lo; q = w.cost - u.cost; k = zero; between = b.0; stops = (omega arith, here (w.lo - y.lo) (w.cost - u.cost) (u.lo - w.lo) (y.cost - w.cost) c.1); is = sym e }
  | inr n ↦ (let r : Stop low high w y rest x = stop_at low high w y rest c.2 b.1 x n in record {
    p = r.p;
    q = r.q;
    k = suc r.k;
    between = r.between;
    stops = (before_falls r.p r.q (u.lo - w.lo) (w.cost - u.cost) (w.lo - y.lo) (y.cost - w.cost) r.between.q_positive c.1 r.stops.0, r.stops);
    is = r.is;
  })
]
  where
    here : (g d f e : ℕ) → g * d < f * e → g * d ≤ f * e
    here g d f e h = omega (arith, h)

-- a chain whose steps are between two prices is its own part
pub chain_is_part : (low high : Price) (part : List Point) → IsWindow low high → IsChain part → AreBetween low high part → IsPartOf low high part part
chain_is_part low high part window c b =
    let own : IsCurve part part = chain_is_curve part c in
    record {
      rises = own.rises;
      among = λ v m. m;
      vertices = λ v m. (let s = least_between part c b v m in record { p = s.0; q = s.1; between = s.2; least = s.3; vertex = own.vertices v m });
      firsts = own.firsts;
      complete = λ w m h. (w, m, same_self w);
    }
  where
    least_between : (part : List Point) → IsChain part → AreBetween low high part → (v : Point) → Among v part → (p : ℕ) × (q : ℕ) × IsPriceBetween low high p q × IsLeastAt p q part v
    least_between [] c b v m = absurd m
    least_between (u ∷ []) c b v m = (
      low.p + high.p,
      low.q + high.q,
      window_price low high window,
      λ w n. (
          let e : w ≡ v = elim n [ inl x ↦ elim m [ inl y ↦ x ∙ sym y | inr y ↦ absurd y ] | inr x ↦ absurd x ] in
          subst (λ z. lagrangian (low.p + high.p) (low.q + high.q) v ≤ lagrangian (low.p + high.p) (low.q + high.q) z) (sym e) (omega arith)),
    )
    least_between (u ∷ w ∷ rest) c b v m = elim m [
      | inl e ↦ (u.lo - w.lo, w.cost - u.cost, b.0, subst (λ z. IsLeastAt (u.lo - w.lo) (w.cost - u.cost) (u ∷ w ∷ rest) z) (sym e) (least_at_stop (u.lo - w.lo) (w.cost - u.cost) (u ∷ w ∷ rest) zero u b.0.q_positive c (omega arith)))
      | inr n ↦ (let r : Stop low high u w rest v = stop_at low high u w rest c b v n in
          (r.p, r.q, r.between, subst (λ z. IsLeastAt r.p r.q (u ∷ w ∷ rest) z) r.is (least_at_stop r.p r.q (u ∷ w ∷ rest) (suc r.k) v r.between.q_positive c r.stops)))
    ]

-- ---- what is before a cut, and behind it

-- a step that is steeper than a price leads down at each price up to it
down_at : (p q hp hq ul uc wl wc : ℕ) → 0 < q → p * hq ≤ hp * q → uc < wc → wl < ul → hp * (wc - uc) < (ul - wl) * hq → q * wl + p * wc < q * ul + p * uc
down_at p q hp hq ul uc wl wc q_positive to a b h = moved (ul - wl) (wc - uc) (omega (arith, b)) (omega (arith, a)) h
  where
    moved : (f d : ℕ) → f + wl ≡ ul → d + uc ≡ wc → hp * d < f * hq → q * wl + p * wc < q * ul + p * uc
    moved f d e g k =
        let x : q * (hp * d) < q * (f * hq) = mul-lt-mul_of_pos_left k q_positive in
        let y : d * (p * hq) ≤ d * (hp * q) = mul-le-mul_left d to in
        let z : p * d < q * f = lt_of_mul-lt-mul_left hq (let i : hq * (p * d) < hq * (q * f) = omega (arith, x, y) in i) in
        let m : q * (f + wl) ≡ q * ul = ap (λ t. q * t) e in
        let n : p * (d + uc) ≡ p * wc = ap (λ t. p * t) g in
        omega (arith, z, m, n)

module _ (high : Price) (p q : ℕ) (q_positive : 0 < q) (to : p * high.q ≤ high.p * q) where
  -- in front of a step that is steeper than the high price all points lie higher, at each price up to it
  pub front_above : (front : List Point) (first : Point) → IsChain (front ++ first ∷ []) → AreSteeper high (front ++ first ∷ []) → (x : Point) → Among x front → lagrangian p q first < lagrangian p q x
  front_above [] first c s x m = absurd m
  front_above (u ∷ []) first c s x m = elim m [
    | inl e ↦ subst (λ z. lagrangian p q first < lagrangian p q z) (sym e) (let t : Steps u first = c.0 in down_at p q high.p high.q u.lo u.cost first.lo first.cost q_positive to t.cost t.lo s.0)
    | inr n ↦ absurd n
  ]
  front_above (u ∷ w ∷ front) first c s x m = elim m [
    | inl e ↦ subst (λ z. lagrangian p q first < lagrangian p q z) (sym e) (
        let t : Steps u w = c.0 in
        let k : lagrangian p q w < lagrangian p q u = down_at p q high.p high.q u.lo u.cost w.lo w.cost q_positive to t.cost t.lo s.0 in
        let l = front_above (w ∷ front) first c.2 s.1 w (inl refl) in
        omega (arith, k, l))
    | inr n ↦ front_above (w ∷ front) first c.2 s.1 x n
  ]

module _ (low : Price) (p q : ℕ) (p_positive : 0 < p) (q_positive : 0 < q) (from : low.p * q ≤ p * low.q) where
  flat_ahead : (last : Point) (back : List Point) → AreFlatter low (last ∷ back) → Flatter p q last back
  flat_ahead last [] s = p_positive
  flat_ahead last (y ∷ back) s = moved (last.lo - y.lo) (y.cost - last.cost) s.0
    where
      moved : (f d : ℕ) → f * low.q < low.p * d → f * q < p * d
      moved f d h =
          let x : q * (f * low.q) < q * (low.p * d) = mul-lt-mul_of_pos_left h q_positive in
          let y : d * (low.p * q) ≤ d * (p * low.q) = mul-le-mul_left d from in
          lt_of_mul-lt-mul_left low.q (let i : low.q * (f * q) < low.q * (p * d) = omega (arith, x, y) in i)

  -- behind one that is flatter than the low price they do at each price from it on
  pub back_above : (last : Point) (back : List Point) → IsChain (last ∷ back) → AreFlatter low (last ∷ back) → (x : Point) → Among x back → lagrangian p q last < lagrangian p q x
  back_above last back c s x m = head_least p q last back q_positive c (flat_ahead last back s) x m

-- ---- the cut

module _ (low high : Price) (curve part : List Point) (chain : IsChain curve) (k : IsCutOf low high curve part) where
  whole_chain : IsChain (k.front ++ (part ++ k.back))
  whole_chain = subst IsChain k.is chain

  -- the first vertex of a cut is in it
  pub first_in : Among k.first part
  first_in = subst (Among k.first) (sym k.begins) (inl refl)

  last_in : Among k.last part
  last_in = subst (Among k.last) (sym k.ends) (among_right k.last k.before (k.last ∷ []) (inl refl))

  -- what is in a cut is in the whole
  pub in_whole : (v : Point) → Among v part → Among v (k.front ++ (part ++ k.back))
  in_whole v m = among_right v k.front (part ++ k.back) (among_left v part k.back m)

  -- what is before a cut is a chain, up to its first vertex
  pub front_chain : IsChain (k.front ++ k.first ∷ [])
  front_chain = chain_prefix (k.front ++ k.first ∷ []) (k.after ++ k.back)
      (subst IsChain (sym (append_assoc k.front (k.first ∷ []) (k.after ++ k.back)))
      (subst (λ (l : List Point). IsChain (k.front ++ (l ++ k.back))) k.begins whole_chain))

  -- what is behind it is one, from its last vertex on
  pub back_chain : IsChain (k.last ∷ k.back)
  back_chain = chain_suffix k.before (k.last ∷ k.back)
      (subst IsChain (append_assoc k.before (k.last ∷ []) k.back)
      (subst (λ (l : List Point). IsChain (l ++ k.back)) k.ends (chain_suffix k.front (part ++ k.back) whole_chain)))

  -- a part that is cut of a chain is one
  pub cut_chain : IsChain part
  cut_chain = chain_prefix part k.back (chain_suffix k.front (part ++ k.back) whole_chain)

  cut_stands : StandForBetween low high (k.front ++ (part ++ k.back)) part
  cut_stands = beaten_between low high (k.front ++ (part ++ k.back)) part in_whole (λ w m. elim (among_either w k.front (part ++ k.back) m) [
    | inl a ↦ inr (λ p q b. (k.first, in_whole k.first first_in, front_above high p q b.q_positive b.to k.front k.first front_chain k.steeper w a))
    | inr n ↦ elim (among_either w part k.back n) [
      | inl a ↦ inl a
      | inr a ↦ inr (λ p q b. (k.last, in_whole k.last last_in, back_above low p q b.p_positive b.q_positive b.from k.last k.back back_chain k.flatter w a))
    ]
  ])

  -- a curve cut at two prices is its part between them
  pub cut_is_part : IsWindow low high → IsPartOf low high curve part
  cut_is_part window = subst (λ l. IsPartOf low high l part) (sym k.is)
      (part_of_standing low high (k.front ++ (part ++ k.back)) part part cut_stands (chain_is_part low high part window cut_chain k.steps))

-- ---- where to cut

-- the first step isn't steeper than the price
abbrev pub Ahead : Price → Point → List Point → Type 0
Ahead price v [] = Unit {0}
Ahead price v (w ∷ rest) = (v.lo - w.lo) * price.q ≤ price.p * (w.cost - v.cost)

record Skipped (high : Price) (points : List Point) : Type 0 where
  front : List Point
  first : Point
  after : List Point
  is : points ≡ front ++ first ∷ after
  steeper : AreSteeper high (front ++ first ∷ [])
  ahead : Ahead high first after

-- one more step steeper than the price in front
pub one_steeper : (high : Price) (v w : Point) (rest front : List Point) (first : Point) (after : List Point) → w ∷ rest ≡ front ++ first ∷ after → high.p * (w.cost - v.cost) < (v.lo - w.lo) * high.q
    → AreSteeper high (front ++ first ∷ []) → AreSteeper high (v ∷ (front ++ first ∷ []))
one_steeper high v w rest [] first after e h s =
    (subst (λ (z : Point). high.p * (z.cost - v.cost) < (v.lo - z.lo) * high.q) (ap (λ (l : List Point). get_or l 0 v) e) h, s)
one_steeper high v w rest (x ∷ front) first after e h s =
    (subst (λ (z : Point). high.p * (z.cost - v.cost) < (v.lo - z.lo) * high.q) (ap (λ (l : List Point). get_or l 0 v) e) h, s)

skip : (high : Price) (v : Point) (rest : List Point) → Skipped high (v ∷ rest)
skip high v [] = record { front = []; first = v; after = []; is = refl; steeper = tt; ahead = tt }
skip high v (w ∷ rest) = elim (cases_lt (high.p * (w.cost - v.cost)) ((v.lo - w.lo) * high.q)) [
  | inl h ↦ (let r : Skipped high (w ∷ rest) = skip high w rest in record {
    front = v ∷ r.front;
    first = r.first;
    after = r.after;
    is = ap (λ (l : List Point). v ∷ l) r.is;
    steeper = one_steeper high v w rest r.front r.first r.after r.is h r.steeper;
    ahead = r.ahead;
  })
  | inr h ↦ record { front = []; first = v; after = w ∷ rest; is = refl; steeper = tt; ahead = h }
]

-- where the part ends, if a list begins with it
pub record Ended (low high : Price) (v : Point) (rest : List Point) : Type 0 where
  pub before : List Point
  pub last : Point
  pub back : List Point
  pub is : v ∷ rest ≡ before ++ last ∷ back
  pub after : List Point
  pub begins : before ++ last ∷ [] ≡ v ∷ after
  pub steps : AreBetween low high (before ++ last ∷ [])
  pub flatter : AreFlatter low (last ∷ back)

-- a step behind one that is flatter than a price is flatter too
flatter_on : (lp lq f d g e : ℕ) → 0 < e → g * d < f * e → f * lq < lp * d → g * lq < lp * e
flatter_on lp lq f d g e e_positive t h =
    let a : e * (f * lq) < e * (lp * d) = mul-lt-mul_of_pos_left h e_positive in
    let b : lq * (g * d) ≤ lq * (f * e) = mul-le-mul_left lq (let i : g * d ≤ f * e = omega (arith, t) in i) in
    lt_of_mul-lt-mul_left d (let i : d * (g * lq) < d * (lp * e) = omega (arith, a, b) in i)

-- the steps after one that is flatter than a price are flatter too
pub all_flatter : (low : Price) (v w : Point) (rest : List Point) → IsChain (v ∷ w ∷ rest) → (v.lo - w.lo) * low.q < low.p * (w.cost - v.cost) → AreFlatter low (v ∷ w ∷ rest)
all_flatter low v w [] c h = (h, tt)
all_flatter low v w (y ∷ rest) c h =
    let s : Steps w y = c.2.0 in
    let sc = s.cost in
    (h, all_flatter low w y rest c.2 (flatter_on low.p low.q (v.lo - w.lo) (w.cost - v.cost) (w.lo - y.lo) (y.cost - w.cost) (omega (arith, sc)) c.1 h))

no_steeper_on : (hp hq f d g e : ℕ) → 0 < d → g * d < f * e → f * hq ≤ hp * d → g * hq ≤ hp * e
no_steeper_on hp hq f d g e d_positive t h =
    let x : hq * (g * d) ≤ hq * (f * e) = mul-le-mul_left hq (let i : g * d ≤ f * e = omega (arith, t) in i) in
    let y : e * (f * hq) ≤ e * (hp * d) = mul-le-mul_left e h in
    le_of_mul-le-mul_left (let i : d * (g * hq) ≤ d * (hp * e) = omega (arith, x, y) in i) d_positive

-- if the first step isn't steeper than the price, nor is the next
pub next_ahead : (high : Price) (v w : Point) (rest : List Point) → IsChain (v ∷ w ∷ rest) → Ahead high v (w ∷ rest) → Ahead high w rest
next_ahead high v w [] c h = tt
next_ahead high v w (y ∷ rest) c h =
    let s : Steps v w = c.0 in
    let sc = s.cost in
    no_steeper_on high.p high.q (v.lo - w.lo) (w.cost - v.cost) (w.lo - y.lo) (y.cost - w.cost) (omega (arith, sc)) c.1 h

-- one more step between the prices in front
pub one_between : (low high : Price) (v w : Point) (rest before : List Point) (last : Point) (back : List Point) → w ∷ rest ≡ before ++ last ∷ back → IsPriceBetween low high (v.lo - w.lo) (w.cost - v.cost)
    → AreBetween low high (before ++ last ∷ []) → AreBetween low high (v ∷ (before ++ last ∷ []))
one_between low high v w rest [] last back e h s =
    (subst (λ (z : Point). IsPriceBetween low high (v.lo - z.lo) (z.cost - v.cost)) (ap (λ (l : List Point). get_or l 0 v) e) h, s)
one_between low high v w rest (x ∷ before) last back e h s =
    (subst (λ (z : Point). IsPriceBetween low high (v.lo - z.lo) (z.cost - v.cost)) (ap (λ (l : List Point). get_or l 0 v) e) h, s)

ends_at : (low high : Price) (v : Point) (rest : List Point) → IsChain (v ∷ rest) → Ahead high v rest → Ended low high v rest
ends_at low high v [] c a = record { before = []; last = v; back = []; is = refl; after = []; begins = refl; steps = tt; flatter = tt }
ends_at low high v (w ∷ rest) c a = elim (cases_lt ((v.lo - w.lo) * low.q) (low.p * (w.cost - v.cost))) [
  | inl h ↦ record { before = []; last = v; back = w ∷ rest; is = refl; after = []; begins = refl; steps = tt; flatter = all_flatter low v w rest c h }
  | inr h ↦ (
      let r : Ended low high w rest = ends_at low high w rest c.2 (next_ahead high v w rest c a) in
      let s : Steps v w = c.0 in
      let sc = s.cost in
      let sl = s.lo in
      record {
        before = v ∷ r.before;
        last = r.last;
        back = r.back;
        is = ap (λ (l : List Point). v ∷ l) r.is;
        after = w ∷ r.after;
        begins = ap (λ (l : List Point). v ∷ l) r.begins;
        steps = one_between low high v w rest r.before r.last r.back r.is (record { p_positive = omega (arith, sl); q_positive = omega (arith, sc); from = h; to = a }) r.steps;
        flatter = r.flatter;
      })
]

-- a curve can be cut at two prices
pub cut_of : (low high : Price) (curve : List Point) → 0 < length curve → IsChain curve → (part : List Point) × IsCutOf low high curve part
cut_of low high [] some c = absurd (omega (arith, some))
cut_of low high (v ∷ rest) some c =
    let s : Skipped high (v ∷ rest) = skip high v rest in
    let chain : IsChain (s.first ∷ s.after) = chain_suffix s.front (s.first ∷ s.after) (subst IsChain s.is c) in
    let e : Ended low high s.first s.after = ends_at low high s.first s.after chain s.ahead in (
      e.before ++ e.last ∷ [],
      record {
        front = s.front;
        back = e.back;
        is = s.is ∙ ap (λ (l : List Point). s.front ++ l) (e.is ∙ sym (append_assoc e.before (e.last ∷ []) e.back));
        first = s.first;
        after = e.after;
        begins = e.begins;
        last = e.last;
        before = e.before;
        ends = refl;
        steeper = s.steeper;
        steps = e.steps;
        flatter = e.flatter;
      },
    )
