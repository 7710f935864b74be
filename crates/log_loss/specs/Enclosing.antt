-- Laws of the ends, placed here because `Score for LogLoss` cites them: they enclose the series and the loss.
use Rattle.std.proofs.Common.{ℕ, zero, suc, ◌+◌, ◌-◌, ◌*◌, ◌^◌, ◌<◌, ◌≤◌, ◌≡◌, ◌∙◌, ◌⊎◌, inl, inr, arith, refl, ap, subst, zero-lt-suc, min, mul-le-mul}
use Rattle.std.proofs.Math.Nat.{mul-pos, mul-le-mul_left, mul-le-mul_right, le_of_mul-le-mul_right, mul-sub, lt_of_mul-lt-mul_right, le_refl}
use Rattle.list_laws.proofs.Public.{ceil_above, floor_below_ceil, min_steps}
use Rattle.exact_model.specs.Fraction.{Fraction, whole, sum_below, scaled, Contains, Encloses, ◌≈◌, ◌≤ℚ◌, ◌+ℚ◌, ◌-ℚ◌, ◌*ℚ◌, ◌/ℚ◌}
use Rattle.exact_model.proofs.Public.{over, same, turned, ◌≈≈◌, le_same, le_chain, le_self, le_plus, plus_assoc, add_same, sub_same, contains_same, nothing_less}
use Rattle.fixed_interval.specs.Ends.{Ends, In, ends_times, ends_over, ends_capped, ends_power}
use Rattle.fixed_interval.proofs.Public.{add_encloses, exact_encloses, power_encloses, over_encloses, times_encloses, quotient_is, high_le, low_le, capped_encloses}
use Rattle.hull.specs.Scores.{EnclosesValue, LeavesRoom}
use Rattle.exact_model.specs.Sums.{power}
use Rattle.log_loss.specs.Loss.{term, loss, smaller, empty_share, loss_of}
use Rattle.log_loss.specs.Profile.{sum_ends, rest_past, series_past, series_ends, share_ends, loss_ends}
use Rattle.log_loss.specs.Ranges.{IsShare, gap_positive, series_most, series_ordered}

-- ---- the sum of the first terms

next_loss : (q : Fraction) (n : ℕ) → loss n q +ℚ term q n ≈ loss (suc n) q
unfolding sum_below
next_loss q n = same (loss n q +ℚ term q n)

no_loss : (q : Fraction) → whole 0 ≈ loss 0 q
unfolding sum_below
no_loss q = same (whole 0)

pub sum_in : (f : ℕ) (y : Ends) (q : Fraction) (n : ℕ) → In f y q → In f (sum_ends f y n) (loss n q)
unfolding sum_ends
sum_in f y q zero h = contains_same (no_loss q) (exact_encloses f 0)
sum_in f y q (suc n) h =
    contains_same (next_loss q n)
    (add_encloses f (sum_ends f y n) (ends_over (ends_power f y n) (suc n)) (loss n q) (term q n) (sum_in f y q n h)
    (over_encloses f (ends_power f y n) (suc n) (power q (suc n)) (zero-lt-suc n) (power_encloses f y q n h)))

-- ---- the terms past them

add_left_step : (a b c d e f : ℕ) → c * f ≤ e * d → (a * d + c * b) * (b * f) ≤ (a * f + e * b) * (b * d)
add_left_step a b c d e f h = omega (arith, mul-le-mul_left (b * b) h)

add_left : (q : Fraction) {r s : Fraction} → r ≤ℚ s → q +ℚ r ≤ℚ q +ℚ s
unfolding ◌+ℚ◌
add_left q {r} {s} h = record { cross = add_left_step q.num q.den r.num r.den s.num s.den h.cross }

-- q is below 1 by g over its denominator
pub record IsBelowOne (q : Fraction) (g : ℕ) : Type 0 where
  pub gap : q.num + g ≡ q.den
  pub positive : 0 < g

-- p / (c (1 - q)) for q of the denominator b
abbrev tail_of : (p : Fraction) (b g c : ℕ) → 0 < b → 0 < g → 0 < c → Fraction
tail_of p b g c s t u = over (p.num * b) (p.den * (c * g)) (mul-pos p.positive (mul-pos u t))

-- 1 / m + q / (c (1 - q)) <= 1 / (c (1 - q)) if c <= m
tail_step : (P D a b g c m : ℕ) → a + g ≡ b → c ≤ m
    → (P * 1 * (D * b * (c * g)) + P * a * b * (D * m)) * (D * (c * g)) ≤ P * b * (D * m * (D * b * (c * g)))
tail_step P D a b g c m e h =
    let x : c * g + a * m ≤ b * m = omega (arith, mul-le-mul_right g h, ap (λ z. z * m) e) in
    let y : (P * D * D * b * (c * g)) * (c * g + a * m) ≤ (P * D * D * b * (c * g)) * (b * m) =
    mul-le-mul_left (P * D * D * b * (c * g)) x in
    omega arith

tail_over : (q p : Fraction) (g c m : ℕ) (h : IsBelowOne q g) (r : 0 < c) → c ≤ suc m
    → over (p.num * 1) (p.den * suc m) (mul-pos p.positive (zero-lt-suc m)) +ℚ tail_of
    (p *ℚ q) q.den g c q.positive h.positive r ≤ℚ tail_of p q.den g c q.positive h.positive r
unfolding ◌+ℚ◌ ◌*ℚ◌
tail_over q p g c m h r l = record { cross = tail_step p.num p.den q.num q.den g c (suc m) h.gap l }

share_of_quotient : (p : Fraction) (m : ℕ)
    → p /ℚ whole (suc m) ≈ over (p.num * 1) (p.den * suc m) (mul-pos p.positive (zero-lt-suc m))
unfolding whole
share_of_quotient p m = quotient_is p (record { num = suc m; den = 1; positive = zero-lt-suc 0 }) (zero-lt-suc m)

tail_next : (q p : Fraction) (g c m : ℕ) (h : IsBelowOne q g) (r : 0 < c) → c ≤ suc m
    → p /ℚ whole (suc m) +ℚ tail_of (p *ℚ q) q.den g c q.positive h.positive r
    ≤ℚ tail_of p q.den g c q.positive h.positive r
tail_next q p g c m h r l =
    le_same (add_same (turned (share_of_quotient p m)) (same (tail_of (p *ℚ q) q.den g c q.positive h.positive r)))
    (same (tail_of p q.den g c q.positive h.positive r)) (tail_over q p g c m h r l)

power_is : (q : Fraction) (n : ℕ) → power q n *ℚ q ≡ power q (suc n)
unfolding power
power_is q n = refl

-- an upper bound of the terms after the mth, by the place n
abbrev tail_at : (q : Fraction) (g n m : ℕ) → IsBelowOne q g → Fraction
tail_at q g n m h = tail_of (power q (suc m)) q.den g (suc n) q.positive h.positive (zero-lt-suc n)

term_and_tail : (q : Fraction) (g n m : ℕ) (h : IsBelowOne q g) → n ≤ m
    → term q m +ℚ tail_at q g n (suc m) h ≤ℚ tail_at q g n m h
term_and_tail q g n m h l =
    subst (λ (p : Fraction). term q m +ℚ tail_of p q.den g (suc n) q.positive h.positive (zero-lt-suc n)
    ≤ℚ tail_at q g n m h) (power_is q (suc m))
    (tail_next q (power q (suc m)) g (suc n) m h (zero-lt-suc n) (omega arith))

tails_step : (q : Fraction) (g n m : ℕ) (h : IsBelowOne q g) → n ≤ m
    → loss (suc m) q +ℚ tail_at q g n (suc m) h ≤ℚ loss m q +ℚ tail_at q g n m h
tails_step q g n m h l =
    le_same
    (turned (add_same (turned (next_loss q m)) (same (tail_at q g n (suc m) h)) ≈≈ plus_assoc (loss m q) (term q m)
    (tail_at q g n (suc m) h)))
    (same (loss m q +ℚ tail_at q g n m h))
    (add_left (loss m q) (term_and_tail q g n m h l))

-- the first terms with the bound of the rest are at least any more terms with the bound of their rest
tails : (q : Fraction) (g n j : ℕ) (h : IsBelowOne q g)
    → loss (j + n) q +ℚ tail_at q g n (j + n) h ≤ℚ loss n q +ℚ tail_at q g n n h
tails q g n zero h =
    let e : n ≡ 0 + n = omega arith in
    subst (λ m. loss m q +ℚ tail_at q g n m h ≤ℚ loss n q +ℚ tail_at q g n n h) e
    (le_self (loss n q +ℚ tail_at q g n n h))
tails q g n (suc j) h =
    let e : suc (j + n) ≡ suc j + n = omega arith in
    subst (λ m. loss m q +ℚ tail_at q g n m h ≤ℚ loss n q +ℚ tail_at q g n n h) e
    (le_chain (tails_step q g n (j + n) h (omega arith)) (tails q g n j h))

more_terms : (q : Fraction) (n j : ℕ) → loss n q ≤ℚ loss (j + n) q
more_terms q n zero =
    let e : n ≡ 0 + n = omega arith in
    subst (λ m. loss n q ≤ℚ loss m q) e (le_self (loss n q))
more_terms q n (suc j) =
    let e : suc (j + n) ≡ suc j + n = omega arith in
    subst (λ m. loss n q ≤ℚ loss m q) e
    (le_chain (more_terms q n j) (le_same (same (loss (j + n) q)) (next_loss q (j + n))
    (le_plus (loss (j + n) q) (term q (j + n)))))

-- ---- the series

below_one_step : (o h a b : ℕ) → h < o → 0 < b → a * o ≤ h * b → a < b
below_one_step o h a b l p k = lt_of_mul-lt-mul_right o (omega (arith, mul-le-mul_right b l, k))

below_one : (f : ℕ) (y : Ends) (q : Fraction) → IsShare f y → In f y q → IsBelowOne q (q.den - q.num)
below_one f y q s h =
    let l : q.num < q.den = below_one_step (2 ^ f) y.hi q.num q.den
    (omega (arith, gap_positive f y s)) q.positive h.high in
    record { gap = omega arith; positive = omega arith }

gap_step : (o h a b g : ℕ) → a + g ≡ b → a * o ≤ h * b → b * (o - h) ≤ g * o
gap_step o h a b g e k = omega (arith, mul-sub b o h, ap (λ z. z * o) e, k)

rest_step : (o w h r P D b g c G : ℕ) → 0 < G → w * o ≤ r * (c * G) → P * o ≤ w * D → b * G ≤ g * o
    → P * b * o ≤ r * (D * (c * g))
rest_step o w h r P D b g c G p i j k =
    let x : (P * o) * (b * G) ≤ (w * D) * (g * o) = mul-le-mul j k in
    let y : (D * g) * (w * o) ≤ (D * g) * (r * (c * G)) = mul-le-mul_left (D * g) i in
    le_of_mul-le-mul_right {m = P * b * o} {n = r * (D * (c * g))} {k = G} (omega arith) p

rest_in : (f : ℕ) (y : Ends) (q : Fraction) (g n : ℕ) (h : IsBelowOne q g) → IsShare f y → In f y q
    → In f (record { lo = 0; hi = rest_past f y n }) (tail_at q g n n h)
rest_in f y q g n h s i = record {
  low = omega arith;
  high =
      rest_step (2 ^ f) (ends_power f y n).hi y.hi (rest_past f y n) (power q (suc n)).num (power q (suc n)).den q.den g
      (suc n) (2 ^ f - y.hi) (gap_positive f y s)
      (ceil_above ((ends_power f y n).hi * 2 ^ f) (suc n * (2 ^ f - y.hi))
      (mul-pos (zero-lt-suc n) (gap_positive f y s)))
      (power_encloses f y q n i).high
      (gap_step (2 ^ f) y.hi q.num q.den g h.gap i.high);
}

series_in : (f : ℕ) (y : Ends) (q : Fraction) (n j : ℕ) → IsShare f y → In f y q
    → In f (series_past f y n) (loss (j + n) q)
unfolding series_past
series_in f y q n j s i =
    let g = q.den - q.num in
    let h = below_one f y q s i in
    let all = add_encloses f (sum_ends f y n) (record { lo = 0; hi = rest_past f y n }) (loss n q)
    (tail_at q (q.den - q.num) n n h)
    (sum_in f y q n i) (rest_in f y q (q.den - q.num) n h s i) in
    record {
      low = low_le (2 ^ f) (sum_ends f y n).lo (loss n q) (loss (j + n) q) (more_terms q n j) (sum_in f y q n i).low;
      high = high_le (2 ^ f) ((sum_ends f y n).hi + rest_past f y n) (loss (j + n) q)
          (loss n q +ℚ tail_at q (q.den - q.num) n n h)
          (le_chain (le_plus (loss (j + n) q) (tail_at q (q.den - q.num) n (j + n) h)) (tails q (q.den - q.num) n j h))
          all.high;
    }

-- the interval of n terms with the bound of the rest contains the series of a share at each depth from 1024 on
pub series_encloses : (f : ℕ) (y : Ends) (q : Fraction) (n : ℕ) → IsShare f y → In f y q → n ≤ 1024
    → Encloses f (series_past f y n).lo (series_past f y n).hi (λ m. loss m q)
series_encloses f y q n s i l m d =
    let e : m - n + n ≡ m = omega arith in
    subst (λ k. Contains f (series_past f y n).lo (series_past f y n).hi (loss k q)) e (series_in f y q n (m - n) s i)

-- ---- the smaller of two

nothing_step : (a b c d : ℕ) → a * d ≤ c * b → (a * d - c * b) * 1 ≡ 0 * (b * d)
nothing_step a b c d h = omega arith

nothing_above : (q r : Fraction) → q ≤ℚ r → q -ℚ r ≈ whole 0
unfolding ◌-ℚ◌ whole
nothing_above q r h = record { cross = nothing_step q.num q.den r.num r.den h.cross }

first_smaller : (q r : Fraction) → q ≤ℚ r → smaller q r ≈ q
first_smaller q r h = sub_same (same q) (nothing_above q r h) ≈≈ nothing_less q

second_step : (a b c d : ℕ) → c * b ≤ a * d → (a * (b * d) - (a * d - c * b) * b) * d ≡ c * (b * (b * d))
second_step a b c d h =
    let x : b * (a * d - c * b) ≡ b * (a * d) - b * (c * b) = mul-sub b (a * d) (c * b) in
    let y : b * (c * b) ≤ b * (a * d) = mul-le-mul_left b h in
    let z : a * (b * d) - (a * d - c * b) * b ≡ b * (c * b) = omega arith in
    ap (λ k. k * d) z ∙ omega arith

second_smaller : (q r : Fraction) → r ≤ℚ q → smaller q r ≈ r
unfolding ◌-ℚ◌
second_smaller q r h = record { cross = second_step q.num q.den r.num r.den h.cross }

le_or_le : (q r : Fraction) → (q ≤ℚ r) ⊎ (r ≤ℚ q)
le_or_le q r = elim (whole_le_or_le (q.num * r.den) (r.num * q.den)) [
  | inl h ↦ inl (record { cross = h })
  | inr h ↦ inr
      (record { cross = h })
]
  where
    whole_le_or_le : (x y : ℕ) → (x ≤ y) ⊎ (y ≤ x)
    whole_le_or_le x y = grind arith

cap_low : (lo c d n : ℕ) → c * d ≡ n → min lo c * d ≤ n
cap_low lo c d n e = omega (arith, min_steps lo c d, e)

cap_high : (hi c d n : ℕ) → c * d ≡ n → n ≤ hi * d → n ≤ min hi c * d
cap_high hi c d n e h = omega (arith, min_steps hi c d, e, h)

-- the ends capped at exactly r contain the smaller of their fraction and r
smaller_in : (f : ℕ) (a : Ends) (c : ℕ) (q r : Fraction) → c * r.den ≡ r.num * 2 ^ f → In f a q
    → In f (ends_capped a c) (smaller q r)
smaller_in f a c q r e h = elim (le_or_le q r) [
  | inl l ↦ contains_same (turned (first_smaller q r l))
      (capped_encloses f a c q (high_le (2 ^ f) c q r l (omega arith)) h)
  | inr l ↦ contains_same (turned (second_smaller q r l)) (record {
    low = cap_low a.lo c r.den (r.num * 2 ^ f) e;
    high = cap_high a.hi c r.den (r.num * 2 ^ f) e (high_le (2 ^ f) a.hi r q l h.high);
  })
]

-- ---- the score

most_share : 7 * 2 ^ 45 * (whole 7 /ℚ whole 8).den ≡ (whole 7 /ℚ whole 8).num * 2 ^ 48
unfolding whole ◌/ℚ◌ scaled
most_share = refl

share_in : (systems per_system : ℕ) (backorders : Ends) (x : Fraction) → 0 < systems * per_system → In 48 backorders x
    → In 48 (share_ends systems per_system backorders) (empty_share systems per_system x)
share_in systems per_system backorders x p h =
    smaller_in 48 (ends_over backorders (systems * per_system)) (7 * 2 ^ 45) (x /ℚ whole (systems * per_system))
    (whole 7 /ℚ whole 8) most_share
    (over_encloses 48 backorders (systems * per_system) x p h)

pub share_is : (systems per_system : ℕ) (backorders : Ends) → IsShare 48 (share_ends systems per_system backorders)
share_is systems per_system backorders = record { scale = (omega arith, omega arith); most = omega arith }

twice : (n z : ℕ) (q : Fraction) → whole n *ℚ (whole z *ℚ q) ≈ whole (n * z) *ℚ q
unfolding ◌*ℚ◌ whole
twice n z q = record { cross = omega arith }

-- the interval of the score contains the loss of the backorders at each depth from 1024 on
pub loss_encloses : EnclosesValue (λ systems per_system _ backorders. loss_ends systems per_system backorders)
    (λ systems per_system _ e n. loss_of systems per_system e n)
loss_encloses systems per_system weight backorders x limits inside n deep =
    let y = share_ends systems per_system backorders in
    let s = series_encloses 48 (share_ends systems per_system backorders) (empty_share systems per_system x) 256
    (share_is systems per_system backorders)
    (share_in systems per_system backorders x
    (mul-pos (omega (arith, limits.some_systems)) (omega (arith, limits.some_per_system))) inside)
    (omega arith) n deep in
    contains_same (twice systems per_system (loss n (empty_share systems per_system x)))
    (times_encloses 48 (ends_times (series_ends 48 (share_ends systems per_system backorders)) per_system) systems
    (whole per_system *ℚ loss n (empty_share systems per_system x))
    (times_encloses 48 (series_ends 48 (share_ends systems per_system backorders)) per_system
    (loss n (empty_share systems per_system x)) s))

share_ordered : (k : ℕ) (e : Ends) (c : ℕ) → 0 < k → e.lo ≤ e.hi
    → (ends_capped (ends_over e k) c).lo ≤ (ends_capped (ends_over e k) c).hi
share_ordered k e c p h = omega (arith, floor_below_ceil e.lo k e.hi k h p (le_refl k))

room_step : (s z n : ℕ) → s ≤ 4 * 2 ^ 48 → z ≤ 100 → n ≤ 10000 → s * z * n < 2 ^ 70
room_step s z n h k l =
    let x : s * z ≤ 4 * 2 ^ 48 * 100 = mul-le-mul h k in
    let y : s * z * n ≤ 4 * 2 ^ 48 * 100 * 10000 = mul-le-mul x l in
    omega (arith, y)

-- the interval of the score is in order and leaves room for sums
pub loss_has_room : LeavesRoom (λ systems per_system _ backorders. loss_ends systems per_system backorders)
loss_has_room systems per_system weight backorders limits ordered =
    let y = share_ends systems per_system backorders in
    let p : 0 < systems * per_system = mul-pos (omega (arith, limits.some_systems))
    (omega (arith, limits.some_per_system)) in (
      mul-le-mul_right systems (mul-le-mul_right per_system
          (series_ordered 48 (share_ends systems per_system backorders) 256
          (share_ordered (systems * per_system) backorders (7 * 2 ^ 45) p ordered))),
      room_step (series_ends 48 (share_ends systems per_system backorders)).hi per_system systems
          (series_most 48 (share_ends systems per_system backorders) 255 (share_is systems per_system backorders)
          (omega arith) (omega arith))
          limits.most_per_system limits.most_systems,
    )
