-- Vertices behind a place of a chain.
use Rattle.std.proofs.Common.{◌≡◌, ℕ, zero, suc, ◌+◌, ◌-◌, ◌*◌, ◌<◌, ◌≤◌, inl, inr, List, [], ◌∷◌, ◌++◌, length, take, drop, refl, sym, ap, ◌∙◌, subst, arith, length-append}
use Rattle.std.proofs.Math.Nat.{mul-le-mul_left, le_of_mul-le-mul_left}
use Rattle.hull.specs.declared.point.Point.{Point}
use Rattle.hull.specs.declared.price.Price.{Price}
use Rattle.hull.specs.Curves.{lagrangian, Among, IsChain, Steps, point_at}
use Rattle.hull.proofs.Public.{same_self, among_either, cost_from_head}
use Rattle.curve_parts.specs.Cuts.{AreFlatter, Flatter, IsCutOf, IsWindow, StepAt}
use Rattle.curve_parts.specs.Beyond.{LieBeyond}
use Rattle.curve_parts.proofs.Cuts.{all_flatter, back_above, back_chain, first_in, front_above, front_chain, in_whole}

-- along a chain no point is cheaper than the first
costs_from : (v : Point) (rest : List Point) → IsChain (v ∷ rest) → (k : ℕ) → k < length (v ∷ rest) → v.cost ≤ (point_at (v ∷ rest) k).cost
costs_from v rest c zero b = omega arith
costs_from v [] c (suc k) b = absurd (omega (arith, b))
costs_from v (x ∷ rest) c (suc k) b =
    let s : Steps v x = c.0 in
    let up = s.cost in
    let more : x.cost ≤ (point_at (x ∷ rest) k).cost = costs_from x rest c.2 k (omega (arith, b)) in
    let all : v.cost ≤ (point_at (x ∷ rest) k).cost = omega (arith, up, more) in
    all

-- none is dearer than the last
pub none_dearer : (l : List Point) (m : ℕ) → IsChain l → m < length l → length l ≤ m + 1 → (w : Point) → Among w l → w.cost ≤ (point_at l m).cost
none_dearer [] m c b e w n = absurd n
none_dearer (v ∷ []) zero c b e w n = elim n [ inl i ↦ subst (λ (z : Point). z.cost ≤ v.cost) (sym i) (omega arith) | inr i ↦ absurd i ]
none_dearer (v ∷ []) (suc m) c b e w n = absurd (omega (arith, b))
none_dearer (v ∷ x ∷ rest) zero c b e w n = absurd (omega (arith, e))
none_dearer (v ∷ x ∷ rest) (suc m) c b e w n = elim n [
  | inl i ↦ subst (λ (z : Point). z.cost ≤ (point_at (x ∷ rest) m).cost) (sym i) (costs_from v (x ∷ rest) c (suc m) b)
  | inr i ↦ none_dearer (x ∷ rest) m c.2 (omega (arith, b)) (omega (arith, e)) w i
]

-- from a price on at which the step is flatter, the next one is the lowest of those that are dearer
pub next_lowest : (low : Price) → 0 < low.q → (l : List Point) (m : ℕ) → IsChain l → m + 1 < length l → StepAt (Flatter low) l m → (w : Point) → Among w l → (point_at l m).cost < w.cost
    → lagrangian low.p low.q (point_at l (m + 1)) ≤ lagrangian low.p low.q w
next_lowest low money [] m c b s w n d = absurd n
next_lowest low money (v ∷ []) m c b s w n d = absurd (omega (arith, b))
next_lowest low money (v ∷ x ∷ rest) zero c b s w n d = elim n [
  | inl i ↦ absurd (let e = ap (λ (z : Point). z.cost) i in omega (arith, e, d))
  | inr i ↦ elim i [
    | inl e ↦ subst (λ z. lagrangian low.p low.q x ≤ lagrangian low.p low.q z) (sym e) (omega arith)
    | inr r ↦ (
        let flat : AreFlatter low (v ∷ x ∷ rest) = all_flatter low v x rest c s in
        let steep : 0 < low.p = positive low.p low.q (v.lo - x.lo) (x.cost - v.cost) s in
        let k = back_above low low.p low.q steep money (omega arith) x rest c.2 flat.1 w r in
        omega (arith, k))
  ]
]
  where
    positive : (p q f d : ℕ) → f * q < p * d → 0 < p
    positive zero q f d h = absurd (omega (arith, h))
    positive (suc p) q f d h = omega arith
next_lowest low money (v ∷ x ∷ rest) (suc m) c b s w n d =
    let next : suc m + 1 ≡ suc (m + 1) = omega arith in
    elim n [
      | inl i ↦ absurd (
          let e = ap (λ (z : Point). z.cost) i in
          let k = costs_from v (x ∷ rest) c (suc m) (omega (arith, b)) in
          omega (arith, e, d, k))
      | inr i ↦ subst (λ j. lagrangian low.p low.q (point_at (v ∷ x ∷ rest) j) ≤ lagrangian low.p low.q w) (sym next)
          (next_lowest low money (x ∷ rest) m c.2 (omega (arith, b)) s w i d)
    ]

-- ---- the last vertex of a cut

-- what is read of a list that ends with a point
read_last : (before : List Point) (v : Point) (k : ℕ) → k ≡ length before → point_at (before ++ v ∷ []) k ≡ v
read_last [] v zero e = refl
read_last [] v (suc k) e = absurd (omega (arith, e))
read_last (x ∷ before) v zero e = absurd (omega (arith, e))
read_last (x ∷ before) v (suc k) e = read_last before v k (omega (arith, e))

read_front : (l : List Point) (n : ℕ) → point_at (take (suc n) l) n ≡ point_at l n
read_front [] n = refl
read_front (v ∷ l) zero = refl
read_front (v ∷ l) (suc n) = read_front l n

-- what is read of a stretch of a list
read_stretch : (l : List Point) (from n : ℕ) → point_at (take (suc n) (drop from l)) n ≡ point_at l (from + n)
read_stretch l zero n = (let e : 0 + n ≡ n = omega arith in read_front l n ∙ sym (ap (point_at l) e))
read_stretch [] (suc from) n = refl
read_stretch (v ∷ l) (suc from) n = (let e : suc from + n ≡ suc (from + n) = omega arith in read_stretch l from n ∙ sym (ap (point_at (v ∷ l)) e))

-- how long it is
pub long_stretch : (l : List Point) (from n : ℕ) → from + n < length l → length (take (suc n) (drop from l)) ≡ suc n
long_stretch l zero n b = long_front l n (omega (arith, b))
  where
    long_front : (l : List Point) (n : ℕ) → n < length l → length (take (suc n) l) ≡ suc n
    long_front [] n b = absurd (omega (arith, b))
    long_front (v ∷ l) zero b = refl
    long_front (v ∷ l) (suc n) b = (let e = long_front l n (omega (arith, b)) in omega (arith, e))
long_stretch [] (suc from) n b = absurd (omega (arith, b))
long_stretch (v ∷ l) (suc from) n b = long_stretch l from n (omega (arith, b))

-- ---- behind a cut

-- a price up to the low one is up to the high one
up_to_high : (low high : Price) (p q : ℕ) → IsWindow low high → p * low.q ≤ low.p * q → p * high.q ≤ high.p * q
up_to_high low high p q window to =
    let x : high.q * (p * low.q) ≤ high.q * (low.p * q) = mul-le-mul_left high.q to in
    let y : q * (low.p * high.q) ≤ q * (high.p * low.q) = mul-le-mul_left q window.order in
    le_of_mul-le-mul_left (let z : low.q * (p * high.q) ≤ low.q * (high.p * q) = omega (arith, x, y) in z) window.money

-- The vertices at a price up to the low one are those of the part and those behind it: they lie as high as the number
-- that all dearer ones reach.
pub behind_cut : (low high : Price) (curve part : List Point) → IsWindow low high → IsChain curve → (k : IsCutOf low high curve part) → (beyond : ℕ)
    → ((w : Point) → Among w curve → k.last.cost < w.cost → beyond ≤ lagrangian low.p low.q w) → LieBeyond low curve part beyond
behind_cut low high curve part window chain k beyond high_enough = λ w m h.
    let whole : Among w (k.front ++ (part ++ k.back)) = subst (λ (l : List Point). Among w l) k.is m in
    elim (among_either w k.front (part ++ k.back) whole) [
      | inl a ↦ absurd (
          let first : Among k.first curve = subst (λ (l : List Point). Among k.first l) (sym k.is) (in_whole low high curve part chain k k.first (first_in low high curve part chain k)) in
          let l = h.least k.first first in
          let above = front_above high h.p h.q h.between.q_positive (up_to_high low high h.p h.q window h.between.to) k.front k.first (front_chain low high curve part chain k) k.steeper w a in
          omega (arith, l, above))
      | inr n ↦ elim (among_either w part k.back n) [
        | inl a ↦ inl (w, a, same_self w)
        | inr a ↦ inr (high_enough w m (cost_from_head k.last k.back (back_chain low high curve part chain k) w a))
      ]
    ]

-- the last vertex of a cut by places
pub last_of_cut : (low high : Price) (l part : List Point) (from n : ℕ) → part ≡ take (suc n) (drop from l) → length part ≡ suc n → (k : IsCutOf low high l part) → k.last ≡ point_at l (from + n)
last_of_cut low high l part from n is long k =
    let count : length part ≡ length (k.before ++ k.last ∷ []) = ap length k.ends in
    let one = length-append k.before (k.last ∷ []) in
    sym (read_last k.before k.last n (omega (arith, count, long, one))) ∙ ap (λ (p : List Point). point_at p n) (sym k.ends ∙ is) ∙ read_stretch l from n

-- a list that isn't empty ends with the vertex at its last place
pub split_last : (l : List Point) (k : ℕ) → length l ≡ k + 1 → (before : List Point) × (l ≡ before ++ point_at l k ∷ [])
split_last [] k e = absurd (omega (arith, e))
split_last (v ∷ []) zero e = ([], refl)
split_last (v ∷ []) (suc k) e = absurd (omega (arith, e))
split_last (v ∷ x ∷ rest) zero e = absurd (omega (arith, e))
split_last (v ∷ x ∷ rest) (suc k) e = (let r = split_last (x ∷ rest) k (omega (arith, e)) in (v ∷ r.0, ap (λ (l : List Point). v ∷ l) r.1))
