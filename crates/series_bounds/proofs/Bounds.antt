-- The bound on the ratios, the remainder and the pivot, as the code finds them.
use Rattle.std.proofs.Common.{◌≡◌, ℕ, ◌+◌, ◌-◌, ◌*◌, ◌/◌, ◌<◌, ◌≤◌, ◌^◌, max, true, false, ap, ap₂, sym, ◌∙◌, subst, refl, arith, pow_pos, mul-le-mul_right}
use Rattle.std.specs.Int.{div_ceil}
use Rattle.std.proofs.Math.Nat.{mul-pos, lt_of_mul-lt-mul_right, zero-div}
use Rattle.std.proofs.lemmas.Bool.{lt-ltb, le-ltb}
use Rattle.list_laws.proofs.Public.{ceil_most, ratio_stays}
use Rattle.fixed_interval.specs.Ends.{Ends, ends_less, ends_mul}
use Rattle.series_bounds.specs.Profile.{ratio_ends, far_ratio, ratio_bound, has_remainder, remainder_from, pivot_at}
use Rattle.series_bounds.specs.Walk.{StaysFrom}
use Rattle.series_bounds.proofs.Ranges.{ceil_above}

-- the larger of the ratio at K + 1 and of what the ratios tend to is their bound past K
pub bound_is : (f : ℕ) (m d : Ends) (K b hi far : ℕ) (r : Ends) → hi ≡ r.hi → r ≡ ratio_ends f m d (K + 1) → far ≡ far_ratio f d → b ≡ max hi far → b ≡ ratio_bound f m d K
unfolding ratio_bound
bound_is f m d K b hi far r h hr hf hb = rw (hb, h, hr, hf) refl

-- a bound below 1 gives the weights past K a remainder
pub exists_is : (f : ℕ) (m d : Ends) (K b : ℕ) → b ≡ ratio_bound f m d K → b < 2 ^ f → has_remainder f m d K ≡ true
unfolding has_remainder
exists_is f m d K b h l = lt-ltb (ratio_bound f m d K) (2 ^ f) (subst (λ z. z < 2 ^ f) h l)

-- a bound of at least 1 gives the weights past K no remainder
pub missing_is : (f : ℕ) (m d : Ends) (K b : ℕ) → b ≡ ratio_bound f m d K → 2 ^ f ≤ b → has_remainder f m d K ≡ false
unfolding has_remainder
missing_is f m d K b h l = le-ltb (ratio_bound f m d K) (2 ^ f) (subst (λ z. 2 ^ f ≤ z) h l)

-- the weight at K times the bound, over what the bound lacks of 1, is the remainder at K
pub rest_is : (f : ℕ) (m d : Ends) (K b top t : ℕ) → b ≡ ratio_bound f m d K → t ≡ top → div_ceil (t * b) (2 ^ f - b) ≡ remainder_from f m d top K
unfolding remainder_from
rest_is f m d K b top t h e = rw (e, h) refl

-- the mean less the excess, in whole units, is the pivot
pub pivot_is : (f : ℕ) (m d : Ends) (n x o : ℕ) (e : Ends) → x ≡ e.lo → e ≡ ends_less m d → o ≡ 2 ^ f → n ≡ x / o → n ≡ pivot_at f m d
unfolding pivot_at
pivot_is f m d n x o e h k ho hn = hn ∙ ap₂ (λ y z. y / z) (h ∙ ap (λ (z : Ends). z.lo) k) ho

-- more than t gaps, over the gap and rounded up, is more than t
pub many_gaps : (n gap t : ℕ) → 0 < gap → t * gap < n → t < div_ceil n gap
many_gaps n gap t p h =
    let a : n ≤ div_ceil n gap * gap = ceil_above n gap (div_ceil n gap) p refl in
    lt_of_mul-lt-mul_right gap (omega arith)

-- from 0 to 1 unit, times a ratio above 0 and at most 1
pub one_of : (n d : ℕ) → 0 < n → n ≤ d → div_ceil (1 * n) d ≡ 1
one_of n d p h =
    let a : div_ceil (1 * n) d ≤ 1 = ceil_most (1 * n) d 1 (omega arith) (omega arith) in
    let b : 0 < div_ceil (1 * n) d = many_gaps (1 * n) d 0 (omega arith) (omega arith) in
    omega arith

small_stays : (f : ℕ) (r : Ends) → 0 < r.hi → r.hi ≤ 2 ^ f → ends_mul f (record { lo = 0; hi = 1 }) r ≡ record { lo = 0; hi = 1 }
small_stays f r p h =
    let e : 0 * r.lo ≡ 0 = omega arith in
    ap₂ (λ y z. record { lo = y; hi = z }) (ap (λ y. y / 2 ^ f) e ∙ zero-div (2 ^ f)) (one_of r.hi (2 ^ f) p h)

-- a weight from 0 to 1 unit stays the same over a ratio above 0 and of at most 1
pub weight_stays : (f : ℕ) (m d w : Ends) (x : ℕ) → 0 < x → 0 < m.hi → w.lo ≡ 0 → w.hi ≡ 1 → m.hi + d.hi * (x - 1) ≤ (1 * 2 ^ f + d.lo) * x → w ≡ ends_mul f w (ratio_ends f m d x)
unfolding ratio_ends
weight_stays f m d w x p q l h k =
    let o : 0 < 2 ^ f = pow_pos f in
    let b : 0 < (1 * 2 ^ f + d.lo) * x = mul-pos {m = 1 * 2 ^ f + d.lo} {n = x} (omega arith) p in
    let i : w ≡ record { lo = 0; hi = 1 } = ap₂ (λ y z. record { lo = y; hi = z }) l h in
    let top : (ratio_ends f m d x).hi ≤ 2 ^ f = ceil_most ((m.hi + d.hi * (x - 1)) * 2 ^ f) ((1 * 2 ^ f + d.lo) * x) (2 ^ f) b (omega (arith, mul-le-mul_right (2 ^ f) k)) in
    let least : 0 < (ratio_ends f m d x).hi = many_gaps ((m.hi + d.hi * (x - 1)) * 2 ^ f) ((1 * 2 ^ f + d.lo) * x) 0 b (omega (arith, mul-pos {m = m.hi + d.hi * (x - 1)} {n = 2 ^ f} (omega arith) o)) in
    i ∙ sym (small_stays f (ratio_ends f m d x) least top) ∙ ap (λ (z : Ends). ends_mul f z (ratio_ends f m d x)) (sym i)

-- a weight from 0 to 1 unit stays the same over every ratio from x on, where those are at most 1
pub weight_stays_on : (f : ℕ) (m d w : Ends) (x y : ℕ) → 0 < x → x ≤ y → 0 < m.hi → StaysFrom f m d w x → w ≡ ends_mul f w (ratio_ends f m d y)
weight_stays_on f m d w x y p h q s =
    weight_stays f m d w y (omega arith) q s.least s.most (ratio_stays m.hi d.hi (1 * 2 ^ f + d.lo) x y p h s.falls s.goes_on)

-- twice the numerator at most the denominator: the ratio is at most a half
half_ratio : (n d h : ℕ) → 0 < d → n * 2 ≤ d → div_ceil (n * (2 * h)) d ≤ h
half_ratio n d h p l = ceil_most (n * (2 * h)) d h p (omega (arith, mul-le-mul_right h l))

some_ratio : (n d h : ℕ) → 0 < d → 0 < n → 0 < h → 0 < div_ceil (n * (2 * h)) d
some_ratio n d h p l q = many_gaps (n * (2 * h)) d 0 p (omega (arith, mul-pos {m = n} {n = h} l q))

max_half : (a b h : ℕ) → a ≤ h → b ≤ h → 0 < a → (max a b ≤ h) × (0 < max a b)
max_half a b h p q r = grind (arith, p, q, r)

-- the bound is above 0 and at most a half, where the ratio at K + 1 is at most a half and the excess at most 1
pub bound_half : (f : ℕ) (m d : Ends) (K h : ℕ) → 2 ^ f ≡ 2 * h → 0 < m.hi → (m.hi + d.hi * K) * 2 ≤ (1 * 2 ^ f + d.lo) * (K + 1) → d.hi ≤ 2 ^ f
    → (ratio_bound f m d K ≤ h) × (0 < ratio_bound f m d K)
unfolding ratio_bound ratio_ends
bound_half f m d K h e p l t =
    let o : 0 < 2 ^ f = pow_pos f in
    let i : K + 1 - 1 ≡ K = omega arith in
    let b : 0 < (1 * 2 ^ f + d.lo) * (K + 1) = mul-pos {m = 1 * 2 ^ f + d.lo} {n = K + 1} (omega arith) (omega arith) in
    let r : div_ceil ((m.hi + d.hi * K) * (2 * h)) ((1 * 2 ^ f + d.lo) * (K + 1)) ≤ h = half_ratio (m.hi + d.hi * K) ((1 * 2 ^ f + d.lo) * (K + 1)) h b l in
    let q : 0 < div_ceil ((m.hi + d.hi * K) * (2 * h)) ((1 * 2 ^ f + d.lo) * (K + 1)) =
    some_ratio (m.hi + d.hi * K) ((1 * 2 ^ f + d.lo) * (K + 1)) h b (omega arith) (omega (arith, o, e)) in
    let s : div_ceil (d.hi * (2 * h)) (2 ^ f + d.hi) ≤ h = half_ratio d.hi (2 ^ f + d.hi) h (omega arith) (omega arith) in
    max_half (ratio_ends f m d (K + 1)).hi (far_ratio f d) h
    (subst (λ z. div_ceil ((m.hi + d.hi * (K + 1 - 1)) * z) ((1 * 2 ^ f + d.lo) * (K + 1)) ≤ h) (sym e) (rw i r))
    (subst (λ z. div_ceil (d.hi * z) (2 ^ f + d.hi) ≤ h) (sym e) s)
    (subst (λ z. 0 < div_ceil ((m.hi + d.hi * (K + 1 - 1)) * z) ((1 * 2 ^ f + d.lo) * (K + 1))) (sym e) (rw i q))
