-- Taking the next step keeps the prefix.
use Rattle.std.proofs.Common.{◌≡◌, ℕ, zero, suc, ◌+◌, ◌-◌, ◌*◌, ◌<◌, ◌≤◌, ◌≢◌, ◌⊎◌, inl, inr, List, [], ◌∷◌, ◌++◌, length, set, slice_index, refl, sym, ap, ◌∙◌, subst, arith, get_or-set_other, get_or-set_same, length-set}
use Rattle.list_laws.proofs.Public.{fractions_fall, fractions_fall_on}
use Rattle.hull.specs.declared.point.Point.{Point}
use Rattle.hull.specs.Curves.{Steps, IsChain, point_at}
use Rattle.step_walk.specs.Prefix.{curve_at, vertex_at, HasStep, fall, rise, IsBefore, IsPrefix, IsNext, HaveShapes}

-- the falls and rises of one curve
abbrev pub own_fall : List Point → ℕ → ℕ
own_fall c k = (point_at c k).lo - (point_at c (k + 1)).lo

-- how much more the vertex after the place k costs than that at k
abbrev pub own_rise : List Point → ℕ → ℕ
own_rise c k = (point_at c (k + 1)).cost - (point_at c k).cost

-- a step that comes before another falls as much per money, or more
pub before_is_steeper : (curves : List (List Point)) (f k g j : ℕ) → IsBefore curves f k g j → fall curves g j * rise curves f k ≤ fall curves f k * rise curves g j
before_is_steeper curves f k g j h = elim h [ inl l ↦ omega (arith, l) | inr e ↦ (let z = e.0 in omega (arith, z)) ]

one_more : (k : ℕ) → suc k + 1 ≡ suc (k + 1)
one_more k = omega arith

-- each step of a chain costs more and is lower
pub own_step : (c : List Point) → IsChain c → (k : ℕ) → k + 1 < length c → Steps (point_at c k) (point_at c (k + 1))
own_step [] h k b = absurd (let l : k + 1 < 0 = b in omega arith)
own_step (v ∷ []) h k b = absurd (let l : k + 1 < 1 = b in omega arith)
own_step (v ∷ w ∷ c) h zero b = h.0
own_step (v ∷ w ∷ c) h (suc k) b = subst (λ i. Steps (point_at (w ∷ c) k) (point_at (v ∷ w ∷ c) i)) (sym (one_more k)) (own_step (w ∷ c) h.2 k (omega arith))

-- the slopes of a chain fall
abbrev pub Slopes : List Point → ℕ → ℕ → Type 0
Slopes c k j = own_fall c j * own_rise c k < own_fall c k * own_rise c j

from_tail : (v : Point) (c : List Point) (k j : ℕ) → Slopes c k j → Slopes (v ∷ c) (suc k) (suc j)
from_tail v c k j h =
    subst (λ i. ((point_at c j).lo - (point_at (v ∷ c) i).lo) * own_rise (v ∷ c) (suc k) < own_fall (v ∷ c) (suc k) * ((point_at (v ∷ c) i).cost - (point_at c j).cost)) (sym (one_more j))
    (subst (λ i. own_fall c j * ((point_at (v ∷ c) i).cost - (point_at c k).cost) < ((point_at c k).lo - (point_at (v ∷ c) i).lo) * own_rise c j) (sym (one_more k)) h)

-- from the first step to another
head_slopes : (v w : Point) (c : List Point) → IsChain (v ∷ w ∷ c) → (j : ℕ) → suc j + 1 < length (v ∷ w ∷ c) → Slopes (v ∷ w ∷ c) zero (suc j)
head_slopes v w [] h j b = absurd (let l : suc j + 1 < 2 = b in omega arith)
head_slopes v w (x ∷ c) h zero b = h.1
head_slopes v w (x ∷ c) h (suc j) b =
    let s : Steps v w = h.0 in
    let more : Slopes (w ∷ x ∷ c) zero (suc j) = head_slopes w x c h.2 j (omega arith) in
    let here : Slopes (v ∷ w ∷ x ∷ c) (suc zero) (suc (suc j)) = from_tail v (w ∷ x ∷ c) zero (suc j) more in
    fractions_fall (v.lo - w.lo) (w.cost - v.cost) (own_fall (v ∷ w ∷ x ∷ c) (suc zero)) (own_rise (v ∷ w ∷ x ∷ c) (suc zero)) (own_fall (v ∷ w ∷ x ∷ c) (suc (suc j))) (own_rise (v ∷ w ∷ x ∷ c) (suc (suc j))) here h.1 (let l = s.cost in omega arith)

-- a later step of a chain falls less for its money
pub slopes_fall : (c : List Point) → IsChain c → (k j : ℕ) → k < j → j + 1 < length c → Slopes c k j
slopes_fall [] h k j l b = absurd (let m : j + 1 < 0 = b in omega arith)
slopes_fall (v ∷ []) h k j l b = absurd (let m : j + 1 < 1 = b in omega arith)
slopes_fall (v ∷ w ∷ c) h k zero l b = absurd (let m : k < 0 = l in omega arith)
slopes_fall (v ∷ w ∷ c) h zero (suc j) l b = head_slopes v w c h j b
slopes_fall (v ∷ w ∷ c) h (suc k) (suc j) l b = from_tail v (w ∷ c) k j (slopes_fall (w ∷ c) h.2 k j (omega arith) (omega arith))

-- of the next steps of the families, that of f comes first
pub record IsSteepest (curves : List (List Point)) (picks : List ℕ) (f : ℕ) : Type 0 where
  pub step : HasStep curves f (slice_index picks f)
  pub first : (g : ℕ) → HasStep curves g (slice_index picks g) → (g ≡ f) ⊎ IsBefore curves f (slice_index picks f) g (slice_index picks g)

apart : (k j : ℕ) → k ≤ j → (j ≡ k) ⊎ (k < j)
apart k j h = grind arith

-- a step that comes before one of a family comes before its later ones
before_later : (curves : List (List Point)) (f k g i j : ℕ) → IsChain (curve_at curves g) → i < j → HasStep curves g j → IsBefore curves f k g i → 0 < rise curves f k → IsBefore curves f k g j
before_later curves f k g i j c l s h pos =
    let later : fall curves g j * rise curves g i < fall curves g i * rise curves g j = slopes_fall (curve_at curves g) c i j l s.place in
    inl (fractions_fall_on (fall curves f k) (rise curves f k) (fall curves g i) (rise curves g i) (fall curves g j) (rise curves g j) later (before_is_steeper curves f k g i h) pos)

-- a step of a family's curve costs money
pub rises_at : (curves : List (List Point)) (f k : ℕ) → IsChain (curve_at curves f) → HasStep curves f k → 0 < rise curves f k
rises_at curves f k c s = (let r : Steps (vertex_at curves f k) (vertex_at curves f (k + 1)) = own_step (curve_at curves f) c k s.place in let l = r.cost in omega (arith, l))

-- the steepest of the next steps is the next of all
pub next_of : (curves : List (List Point)) (picks : List ℕ) (f : ℕ) → HaveShapes curves → IsSteepest curves picks f → IsNext curves picks f
next_of curves picks f shapes best = record { step = best.step; first = first }
  where
    pos : 0 < rise curves f (slice_index picks f)
    pos = rises_at curves f (slice_index picks f) (shapes f best.step.family).chain best.step

    first : (g j : ℕ) → HasStep curves g j → slice_index picks g ≤ j → ((g ≡ f) × (j ≡ slice_index picks f)) ⊎ IsBefore curves f (slice_index picks f) g j
    first g j s l =
        let place = s.place in
        let own : HasStep curves g (slice_index picks g) = record { family = s.family; place = omega (arith, place, l) } in
        elim (best.first g own) [
          | inl e ↦ elim (apart (slice_index picks g) j l) [
            | inl z ↦ inl (e, z ∙ ap (λ x. slice_index picks x) e)
            | inr z ↦ inr (subst (λ x. IsBefore curves x (slice_index picks x) g j) e (inl (slopes_fall (curve_at curves g) (shapes g s.family).chain (slice_index picks g) j z s.place)))
          ]
          | inr h ↦ elim (apart (slice_index picks g) j l) [
            | inl z ↦ inr (subst (λ x. IsBefore curves f (slice_index picks f) g x) (sym z) h)
            | inr z ↦ inr (before_later curves f (slice_index picks f) g (slice_index picks g) j (shapes g s.family).chain z s h pos)
          ]
        ]

module _ (curves : List (List Point)) (picks : List ℕ) (f : ℕ) (pre : IsPrefix curves picks) (next : IsNext curves picks f) where
  taken : List ℕ
  taken = set picks f (slice_index picks f + 1)

  in_picks : f < length picks
  in_picks = let s = next.step in let a = s.family in let c = pre.vertices.count in omega (arith, a, c)

  at_own : slice_index (set picks f (slice_index picks f + 1)) f ≡ slice_index picks f + 1
  at_own = get_or-set_same picks f (slice_index picks f + 1) 0 in_picks

  at_other : (g : ℕ) → g ≢ f → slice_index (set picks f (slice_index picks f + 1)) g ≡ slice_index picks g
  at_other g n = get_or-set_other picks f g (slice_index picks f + 1) 0 n

  same_or_not : (g : ℕ) → (g ≡ f) ⊎ (g ≢ f)
  same_or_not g = grind arith

  same_cases : (g k : ℕ) → k < slice_index taken g → (k < slice_index picks g) ⊎ ((g ≡ f) × (k ≡ slice_index picks f))
  unfolding taken
  same_cases g k l = elim (same_or_not g) [
    | inl e ↦ (
        let m : slice_index taken g ≡ slice_index picks f + 1 = ap (λ x. slice_index taken x) e ∙ at_own in
        let n : slice_index picks g ≡ slice_index picks f = ap (λ x. slice_index picks x) e in
        elim (last_or k (slice_index picks f) (omega (arith, l, m))) [ inl a ↦ inl (omega (arith, a, n)) | inr b ↦ inr (e, b) ])
    | inr d ↦ inl (let m = at_other g d in omega (arith, l, m))
  ]
    where
      last_or : (k n : ℕ) → k < n + 1 → (k < n) ⊎ (k ≡ n)
      last_or k n h = grind arith

  not_less : (g j : ℕ) → slice_index taken g ≤ j → slice_index picks g ≤ j
  unfolding taken
  not_less g j l = elim (same_or_not g) [
    | inl e ↦ (
        let m : slice_index taken g ≡ slice_index picks f + 1 = ap (λ x. slice_index taken x) e ∙ at_own in
        let n : slice_index picks g ≡ slice_index picks f = ap (λ x. slice_index picks x) e in
        omega (arith, l, m, n))
    | inr d ↦ (let m = at_other g d in omega (arith, l, m))
  ]

  -- with the next step taken too, the picks are still a prefix of all steps
  pub taken_prefix : IsPrefix curves (set picks f (slice_index picks f + 1))
  unfolding taken
  taken_prefix = record {
    vertices = record {
      count = length-set picks f (slice_index picks f + 1) ∙ pre.vertices.count;
      below = λ g b. elim (same_or_not g) [
        | inl e ↦ (let m : slice_index taken g ≡ slice_index picks f + 1 = ap (λ x. slice_index taken x) e ∙ at_own in
            let p = next.step.place in
            subst (λ x. slice_index taken g < length (curve_at curves x)) (sym e) (omega (arith, m, p)))
        | inr d ↦ (let m = at_other g d in let p = pre.vertices.below g b in omega (arith, m, p))
      ];
    };
    before = λ g k h j sg sh a b. elim (same_cases g k a) [
      | inl l ↦ pre.before g k h j sg sh l (not_less h j b)
      | inr e ↦ subst (λ x. IsBefore curves x k h j) (sym e.0) (subst (λ x. IsBefore curves f x h j) (sym e.1) (goes_first h j sh b))
    ];
  }
    where
      goes_first : (h j : ℕ) → HasStep curves h j → slice_index taken h ≤ j → IsBefore curves f (slice_index picks f) h j
      goes_first h j s b = elim (next.first h j s (not_less h j b)) [
        | inl e ↦ absurd (
            let m : slice_index taken h ≡ slice_index picks f + 1 = ap (λ x. slice_index taken x) e.0 ∙ at_own in
            let n = e.1 in
            omega (arith, b, m, n))
        | inr h ↦ h
      ]

-- how many steps are left
abbrev pub steps_left : List (List Point) → List ℕ → ℕ
steps_left [] picks = 0
steps_left (c ∷ curves) [] = 0
steps_left (c ∷ curves) (k ∷ picks) = (length c - k) + steps_left curves picks

-- with one step more taken, fewer are left
pub left_falls : (curves : List (List Point)) (picks : List ℕ) (f : ℕ) → f < length curves → length picks ≡ length curves → slice_index picks f < length (curve_at curves f) → steps_left curves (set picks f (slice_index picks f + 1)) < steps_left curves picks
left_falls [] picks f b n h = absurd (let l : f < 0 = b in omega arith)
left_falls (c ∷ curves) [] f b n h = absurd (let l : 0 ≡ suc (length curves) = n in omega arith)
left_falls (c ∷ curves) (k ∷ picks) zero b n h = omega (arith, h)
left_falls (c ∷ curves) (k ∷ picks) (suc f) b n h = (let r = left_falls curves picks f (omega arith) (let l : suc (length picks) ≡ suc (length curves) = n in omega arith) h in omega (arith, r))

-- a step of a family's curve leads to no smaller cost
pub cost_rises : (curves : List (List Point)) (f k : ℕ) → IsChain (curve_at curves f) → HasStep curves f k → (vertex_at curves f k).cost ≤ (vertex_at curves f (k + 1)).cost
cost_rises curves f k c s = (let r : Steps (vertex_at curves f k) (vertex_at curves f (k + 1)) = own_step (curve_at curves f) c k s.place in let l = r.cost in omega (arith, l))

-- with one family more, of which no step is taken either, no step is taken
pub zeros_more : (xs : List ℕ) → ((g : ℕ) → slice_index xs g ≡ 0) → (g : ℕ) → slice_index (xs ++ 0 ∷ []) g ≡ 0
zeros_more [] h zero = refl
zeros_more [] h (suc g) = refl
zeros_more (x ∷ xs) h zero = h zero
zeros_more (x ∷ xs) h (suc g) = zeros_more xs (λ k. h (suc k)) g
