-- What the operations on ends keep: where the arguments contain their fractions, the answer contains the exact result.
use Rattle.std.specs.Prelude.{◌≡◌, ℕ, zero, suc, ◌+◌, ◌-◌, ◌*◌, ◌/◌, ◌%◌, ◌^◌, ◌≤◌, ◌<◌, max}
use Rattle.std.specs.Int.{div_ceil}
use Rattle.std.proofs.Common.{arith, ap, lit<, inl, inr, ◌⊎◌, le_trans, mul-le-mul, le_of_mul-le-mul_right, zero-lt-suc}
use Rattle.std.proofs.Math.Nat.{mul-pos, le-max_left, le-max_right, mul-le-mul_left, mul-le-mul_right, div-mul-le_self, mul-sub, pow-le-pow_right, lt_of_mul-lt-mul_right, add-mul-div_left, le_refl, one-le-pow}
use Rattle.std.proofs.lemmas.Nat.{mul-le, pow_pos, shl_below, div-add-mod', mod_below}
use Rattle.std.proofs.lemmas.Grind.{div_ceil_times}
use Rattle.list_laws.proofs.Public.{ceil_above, ceil_is, ceil_le, floor_below_ceil, min_steps, sum_no_less, sum_no_more}
use Rattle.exact_model.specs.Fraction.{Fraction, whole, larger, ◌≈◌, ◌≤ℚ◌, ◌+ℚ◌, ◌-ℚ◌, ◌*ℚ◌, ◌/ℚ◌}
use Rattle.exact_model.specs.Sums.{power}
use Rattle.exact_model.proofs.Public.{over, same, le_same, turned, ◌≈≈◌, mul_cancel, quotient, contains_same, larger_is, first_power, next_power}
use Rattle.fixed_interval.specs.Ends.{Ends, In, ends_exact, ends_add, ends_less, ends_times, ends_over, ends_mul, ends_div, ends_ratio, ends_max, ends_capped, ends_power, InScale, IsInterval}
use Rattle.fixed_interval.specs.Text.{text_value}

-- a factor above 0 on both sides may be left out
pub cancel : (k a b : ℕ) → 0 < k → a * k ≤ b * k → a ≤ b
cancel k a b p h = grind arith

-- an interval that contains a fraction has its ends in order
pub ends_ordered : (f : ℕ) (x : Ends) (q : Fraction) → In f x q → x.lo ≤ x.hi
ends_ordered f x q h = cancel q.den x.lo x.hi q.positive (omega (arith, h.low, h.high))

-- the sum of two intervals contains the sum of what they contain
pub add_encloses : (f : ℕ) (a b : Ends) (q r : Fraction) → In f a q → In f b r → In f (ends_add a b) (q +ℚ r)
unfolding ◌+ℚ◌
add_encloses f a b q r h k = record {
  low = sum_no_more (2 ^ f) a.lo q.num q.den b.lo r.num r.den h.low k.low;
  high = sum_no_less (2 ^ f) a.hi q.num q.den b.hi r.num r.den h.high k.high;
}

less_low : (o al a b bh c d : ℕ) → al * b ≤ a * o → c * o ≤ bh * d → (al - bh) * (b * d) ≤ (a * d - c * b) * o
less_low o al a b bh c d h k =
    let i : (b * d) * (al - bh) ≡ (b * d) * al - (b * d) * bh = mul-sub (b * d) al bh in
    let j : o * (a * d - c * b) ≡ o * (a * d) - o * (c * b) = mul-sub o (a * d) (c * b) in
    let x : (b * d) * al ≤ o * (a * d) = omega (arith, mul-le-mul_left d h) in
    let y : o * (c * b) ≤ (b * d) * bh = omega (arith, mul-le-mul_left b k) in
    let z : (b * d) * al - (b * d) * bh ≤ o * (a * d) - o * (c * b) = omega arith in
    omega arith

less_high : (o ah a b bl c d : ℕ) → a * o ≤ ah * b → bl * d ≤ c * o → (a * d - c * b) * o ≤ (ah - bl) * (b * d)
less_high o ah a b bl c d h k =
    let i : (b * d) * (ah - bl) ≡ (b * d) * ah - (b * d) * bl = mul-sub (b * d) ah bl in
    let j : o * (a * d - c * b) ≡ o * (a * d) - o * (c * b) = mul-sub o (a * d) (c * b) in
    let x : o * (a * d) ≤ (b * d) * ah = omega (arith, mul-le-mul_left d h) in
    let y : (b * d) * bl ≤ o * (c * b) = omega (arith, mul-le-mul_left b k) in
    let z : o * (a * d) - o * (c * b) ≤ (b * d) * ah - (b * d) * bl = omega arith in
    omega arith

-- the difference of two intervals contains the difference, cut at 0, of what they contain
pub less_encloses : (f : ℕ) (a b : Ends) (q r : Fraction) → In f a q → In f b r → In f (ends_less a b) (q -ℚ r)
unfolding ◌-ℚ◌
less_encloses f a b q r h k = record {
  low = less_low (2 ^ f) a.lo q.num q.den b.hi r.num r.den h.low k.high;
  high = less_high (2 ^ f) a.hi q.num q.den b.lo r.num r.den h.high k.low;
}

-- an interval times a whole number contains so many times what it contains
pub times_encloses : (f : ℕ) (a : Ends) (k : ℕ) (q : Fraction) → In f a q → In f (ends_times a k) (whole k *ℚ q)
unfolding ◌*ℚ◌ whole
times_encloses f a k q h = record {
  low = omega (arith, mul-le-mul_left k h.low);
  high = omega (arith, mul-le-mul_left k h.high);
}

-- the interval of a whole number contains it
pub exact_encloses : (f k : ℕ) → In f (ends_exact f k) (whole k)
unfolding whole
exact_encloses f k = record { low = omega arith; high = omega arith }

mul_low : (o l al a b bl c d : ℕ) → 0 < o → l * o ≤ al * bl → al * b ≤ a * o → bl * d ≤ c * o → l * (b * d) ≤ (a * c) * o
mul_low o l al a b bl c d p m h k =
    let x : (l * o) * (b * d) ≤ (al * bl) * (b * d) = mul-le-mul_right (b * d) m in
    let y : (al * b) * (bl * d) ≤ (a * o) * (c * o) = mul-le-mul h k in
    le_of_mul-le-mul_right {m = l * (b * d)} {n = (a * c) * o} {k = o} (omega arith) p

mul_high : (o l al a b bl c d : ℕ) → 0 < o → al * bl ≤ l * o → a * o ≤ al * b → c * o ≤ bl * d → (a * c) * o ≤ l * (b * d)
mul_high o l al a b bl c d p m h k =
    let x : (al * bl) * (b * d) ≤ (l * o) * (b * d) = mul-le-mul_right (b * d) m in
    let y : (a * o) * (c * o) ≤ (al * b) * (bl * d) = mul-le-mul h k in
    le_of_mul-le-mul_right {m = (a * c) * o} {n = l * (b * d)} {k = o} (omega arith) p

-- the product of two intervals contains the product of what they contain
pub mul_encloses : (f : ℕ) (a b : Ends) (q r : Fraction) → In f a q → In f b r → In f (ends_mul f a b) (q *ℚ r)
unfolding ◌*ℚ◌
mul_encloses f a b q r h k = record {
  low = mul_low (2 ^ f) (a.lo * b.lo / 2 ^ f) a.lo q.num q.den b.lo r.num r.den (pow_pos f) (div-mul-le_self (a.lo * b.lo) (2 ^ f)) h.low k.low;
  high = mul_high (2 ^ f) (div_ceil (a.hi * b.hi) (2 ^ f)) a.hi q.num q.den b.hi r.num r.den (pow_pos f) (ceil_above (a.hi * b.hi) (2 ^ f) (pow_pos f)) h.high k.high;
}

-- a / b over c / d, where the divisor is at least bl / o
divisor_positive : (o bl c d : ℕ) → 0 < bl → 0 < d → bl * d ≤ c * o → 0 < c
divisor_positive o bl zero d p q h = omega (arith, mul-pos p q)
divisor_positive o bl (suc c) d p q h = zero-lt-suc c

div_low : (o l al a b bh c d : ℕ) → 0 < bh → l * bh ≤ al * o → al * b ≤ a * o → c * o ≤ bh * d → l * (b * c) ≤ (a * d) * o
div_low o l al a b bh c d p m h k =
    let x : (l * bh) * (b * c) ≤ (al * o) * (b * c) = mul-le-mul_right (b * c) m in
    let y : (al * b) * (o * c) ≤ (a * o) * (o * c) = mul-le-mul_right (o * c) h in
    let z : (a * o) * (c * o) ≤ (a * o) * (bh * d) = mul-le-mul_left (a * o) k in
    le_of_mul-le-mul_right {m = l * (b * c)} {n = (a * d) * o} {k = bh} (omega arith) p

div_high : (o l ah a b bl c d : ℕ) → 0 < bl → ah * o ≤ l * bl → a * o ≤ ah * b → bl * d ≤ c * o → (a * d) * o ≤ l * (b * c)
div_high o l ah a b bl c d p m h k =
    let x : (ah * o) * (b * c) ≤ (l * bl) * (b * c) = mul-le-mul_right (b * c) m in
    let y : (a * o) * (o * c) ≤ (ah * b) * (o * c) = mul-le-mul_right (o * c) h in
    let z : (a * o) * (bl * d) ≤ (a * o) * (c * o) = mul-le-mul_left (a * o) k in
    le_of_mul-le-mul_right {m = (a * d) * o} {n = l * (b * c)} {k = bl} (omega arith) p

-- the quotient of two fractions, as one fraction
pub quotient_is : (q r : Fraction) (p : 0 < r.num) → q /ℚ r ≈ over (q.num * r.den) (q.den * r.num) (mul-pos q.positive p)
unfolding ◌*ℚ◌
quotient_is q r p = mul_cancel r p (quotient q r p ≈≈ record { cross = omega arith })

-- a fraction that an interval above 0 contains is above 0
pub above_zero : (f : ℕ) (b : Ends) (r : Fraction) → 0 < b.lo → In f b r → 0 < r.num
above_zero f b r p k = divisor_positive (2 ^ f) b.lo r.num r.den p r.positive k.low

-- the quotient of two intervals contains the quotient of what they contain, where the divisor's are above 0
pub div_encloses : (f : ℕ) (a b : Ends) (q r : Fraction) → 0 < b.lo → b.lo ≤ b.hi → In f a q → In f b r → In f (ends_div f a b) (q /ℚ r)
div_encloses f a b q r p o h k =
    let s : 0 < r.num = above_zero f b r p k in
    let t : 0 < b.hi = omega arith in
    contains_same (turned (quotient_is q r s)) (record {
      low = div_low (2 ^ f) (a.lo * 2 ^ f / b.hi) a.lo q.num q.den b.hi r.num r.den t (div-mul-le_self (a.lo * 2 ^ f) b.hi) h.low k.high;
      high = div_high (2 ^ f) (div_ceil (a.hi * 2 ^ f) b.lo) a.hi q.num q.den b.lo r.num r.den p (ceil_above (a.hi * 2 ^ f) b.lo p) h.high k.low;
    })

-- the power of an interval contains the power of what it contains
pub power_encloses : (f : ℕ) (a : Ends) (q : Fraction) (n : ℕ) → In f a q → In f (ends_power f a n) (power q (suc n))
unfolding ends_power
power_encloses f a q zero h = contains_same (first_power q) h
power_encloses f a q (suc n) h =
    contains_same (next_power q (suc n)) (mul_encloses f (ends_power f a n) a (power q (suc n)) q (power_encloses f a q n h) h)

over_low : (o al k a b n : ℕ) → n * k ≤ al → al * b ≤ a * o → n * (b * k) ≤ a * 1 * o
over_low o al k a b n h l = omega (arith, mul-le-mul_right b h)

over_high : (o ah k a b n : ℕ) → ah ≤ n * k → a * o ≤ ah * b → a * 1 * o ≤ n * (b * k)
over_high o ah k a b n h l = omega (arith, mul-le-mul_right b h)

over_parts : (f : ℕ) (a : Ends) (k : ℕ) (q : Fraction) (p : 0 < k) → In f a q → In f (ends_over a k) (over (q.num * 1) (q.den * k) (mul-pos q.positive p))
over_parts f a k q p h = record {
  low = over_low (2 ^ f) a.lo k q.num q.den (a.lo / k) (div-mul-le_self a.lo k) h.low;
  high = over_high (2 ^ f) a.hi k q.num q.den (div_ceil a.hi k) (ceil_above a.hi k p) h.high;
}

-- an interval over a whole number above 0 contains the quotient of what it contains
pub over_encloses : (f : ℕ) (a : Ends) (k : ℕ) (q : Fraction) → 0 < k → In f a q → In f (ends_over a k) (q /ℚ whole k)
unfolding whole
over_encloses f a k q p h = contains_same (turned (quotient_is q (record { num = k; den = 1; positive = zero-lt-suc 0 }) p)) (over_parts f a k q p h)

-- the interval of a ratio contains it
pub ratio_encloses : (f num den : ℕ) (p : 0 < den) → In f (ends_ratio f num den) (over num den p)
ratio_encloses f num den p = record {
  low = div-mul-le_self (num * 2 ^ f) den;
  high = ceil_above (num * 2 ^ f) den p;
}

-- ---- order

-- what bounds the smaller of two fractions from below bounds the larger
pub low_le : (o lo : ℕ) (q r : Fraction) → q ≤ℚ r → lo * q.den ≤ q.num * o → lo * r.den ≤ r.num * o
low_le o lo q r h k = low_le_step o lo q.num q.den r.num r.den q.positive h.cross k
  where
    low_le_step : (o lo a b c d : ℕ) → 0 < b → a * d ≤ c * b → lo * b ≤ a * o → lo * d ≤ c * o
    low_le_step o lo a b c d p h k =
        let i : o * (a * d) ≤ o * (c * b) = mul-le-mul_left o h in
        let j : d * (lo * b) ≤ d * (a * o) = mul-le-mul_left d k in
        le_of_mul-le-mul_right {m = lo * d} {n = c * o} {k = b} (omega arith) p

-- what bounds the larger of two fractions from above bounds the smaller
pub high_le : (o hi : ℕ) (q r : Fraction) → q ≤ℚ r → r.num * o ≤ hi * r.den → q.num * o ≤ hi * q.den
high_le o hi q r h k = high_le_step o hi q.num q.den r.num r.den r.positive h.cross k
  where
    high_le_step : (o hi a b c d : ℕ) → 0 < d → a * d ≤ c * b → c * o ≤ hi * d → a * o ≤ hi * b
    high_le_step o hi a b c d p h k =
        let i : o * (a * d) ≤ o * (c * b) = mul-le-mul_left o h in
        let j : b * (c * o) ≤ b * (hi * d) = mul-le-mul_left b k in
        le_of_mul-le-mul_right {m = a * o} {n = hi * b} {k = d} (omega arith) p

max_times : (a b d n : ℕ) → a * d ≤ n → b * d ≤ n → max a b * d ≤ n
max_times a b d n h k = elim (max_is a b) [ inl e ↦ rw e h | inr e ↦ rw e k ]
  where
    max_is : (a b : ℕ) → (max a b ≡ a) ⊎ (max a b ≡ b)
    max_is a b = grind arith

-- the larger of two intervals, end by end, contains the larger of what they contain
pub max_encloses : (f : ℕ) (a b : Ends) (q r : Fraction) → In f a q → In f b r → In f (ends_max a b) (larger q r)
max_encloses f a b q r h k = elim (larger_is q r) [
  | inl e ↦ contains_same (turned e.0) (record {
    low = max_times a.lo b.lo q.den (q.num * 2 ^ f) h.low (low_le (2 ^ f) b.lo r q e.1 k.low);
    high = le_trans h.high (mul-le-mul_right q.den (le-max_left a.hi b.hi));
  })
  | inr e ↦ contains_same (turned e.0) (record {
    low = max_times a.lo b.lo r.den (r.num * 2 ^ f) (low_le (2 ^ f) a.lo q r e.1 h.low) k.low;
    high = le_trans k.high (mul-le-mul_right r.den (le-max_right a.hi b.hi));
  })
]

-- an interval cut at a cap still contains what is at most the cap
pub capped_encloses : (f : ℕ) (a : Ends) (c : ℕ) (q : Fraction) → q.num * 2 ^ f ≤ c * q.den → In f a q → In f (ends_capped a c) q
capped_encloses f a c q h x = record {
  low = omega (arith, min_steps a.lo c q.den, x.low);
  high = omega (arith, min_steps a.hi c q.den, x.high, h);
}

-- ---- the ends of an answer are in order and in range

-- the unit is at most 2^52
pub unit_most : (f : ℕ) → f ≤ 52 → 2 ^ f ≤ 2 ^ 52
unit_most f h = pow-le-pow_right (lit< tt) h

-- a number below 2^(127 - f), in units, is below 2^127
pub scaled_room : (f x : ℕ) → f ≤ 52 → x < 2 ^ (127 - f) → x * 2 ^ f < 2 ^ 127
scaled_room f x h r =
    let e : (127 - f) + f ≡ 127 = omega arith in
    let b = shl_below x (127 - f) f r in
    rw e at b

-- a scaled quotient rounded down is its whole part scaled and what is left, scaled and rounded down
pub floor_split : (num den s : ℕ) → 0 < den → num / den * s + num % den * s / den ≡ num * s / den
floor_split num den s p =
    let d = div-add-mod' num den in
    let e : num * s ≡ num % den * s + den * (num / den * s) = omega (arith, ap (λ n. n * s) d) in
    rw (e, add-mul-div_left (num % den * s) (num / den * s) p) (omega arith)

-- a scaled quotient rounded up is its whole part scaled and what is left, scaled and rounded up
pub ceil_split : (num den s : ℕ) → 0 < den → num / den * s + div_ceil (num % den * s) den ≡ div_ceil (num * s) den
ceil_split num den s p =
    let d = ap (λ n. n * s) (div-add-mod' num den) in
    let t = div_ceil_times (num % den * s) den p in
    ceil_is (num * s) den (num / den * s + div_ceil (num % den * s) den) p
    (omega (arith, t.0, d)) (omega (arith, t.1, d))

-- a quotient rounded up is a whole number within it and the quotient of what is left, rounded up
pub ceil_after : (num den start : ℕ) → 0 < den → start * den ≤ num → start + div_ceil (num - start * den) den ≡ div_ceil num den
ceil_after num den start p h =
    let t = div_ceil_times (num - start * den) den p in
    ceil_is num den (start + div_ceil (num - start * den) den) p (omega (arith, t.0)) (omega (arith, t.1, h))

-- a ratio of at most 4096 is an interval: ends in order and in range
pub ratio_valid : (f num den : ℕ) → InScale f → 0 < den → num ≤ 4096 * den → IsInterval f (ends_ratio f num den)
ratio_valid f num den v p r = record {
  least_scale = v.0;
  most_scale = v.1;
  ordered = floor_below_ceil (num * 2 ^ f) den (num * 2 ^ f) den (le_refl (num * 2 ^ f)) p (le_refl den);
  room =
      let t = div_ceil_times (num * 2 ^ f) den p in
      let x : div_ceil (num * 2 ^ f) den < 4096 * 2 ^ f + 1 =
      lt_of_mul-lt-mul_right den (omega (arith, t.1, mul-le-mul_right (2 ^ f) r)) in
      omega (arith, x, unit_most f v.1);
}

-- a product whose upper ends have room is an interval: ends in order and in range
pub mul_valid : (f : ℕ) (a b : Ends) → IsInterval f a → IsInterval f b → a.hi * b.hi < 2 ^ 127 → IsInterval f (ends_mul f a b)
mul_valid f a b v w r = record {
  least_scale = v.least_scale;
  most_scale = v.most_scale;
  ordered = floor_below_ceil (a.lo * b.lo) (2 ^ f) (a.hi * b.hi) (2 ^ f) (mul-le a.lo b.lo a.hi b.hi v.ordered w.ordered) (pow_pos f) (le_refl (2 ^ f));
  room = omega (arith, ceil_le (a.hi * b.hi) (2 ^ f) (pow_pos f));
}

-- a quotient whose divisor is above 0 and whose dividend has room is an interval: ends in order and in range
pub div_valid : (f : ℕ) (a b : Ends) → IsInterval f a → 0 < b.lo → b.lo ≤ b.hi → a.hi < 2 ^ (127 - f) → IsInterval f (ends_div f a b)
div_valid f a b v p o r = record {
  least_scale = v.least_scale;
  most_scale = v.most_scale;
  ordered = floor_below_ceil (a.lo * 2 ^ f) b.hi (a.hi * 2 ^ f) b.lo (mul-le-mul_right (2 ^ f) v.ordered) p o;
  room = omega (arith, ceil_le (a.hi * 2 ^ f) b.lo p, scaled_room f a.hi v.most_scale r);
}

-- what a division by at most 2^75 leaves, in units, is below 2^127
pub rest_room : (f num den : ℕ) → f ≤ 52 → 0 < den → den ≤ 2 ^ 75 → num % den * 2 ^ f < 2 ^ 127
rest_room f num den h p q =
    let a : num % den + 1 ≤ 2 ^ 75 = omega (arith, mod_below num den p) in
    let b = mul-le (num % den + 1) (2 ^ f) (2 ^ 75) (2 ^ 52) a (unit_most f h) in
    omega (arith, b, pow_pos f)

-- ---- for callers: products of values below whole numbers

-- upper ends of at most x and y, whose product is below 2^23, have room to be multiplied
pub mul_room : (f x y : ℕ) (a b : Ends) → f ≤ 52 → a.hi ≤ x * 2 ^ f → b.hi ≤ y * 2 ^ f → x * y < 2 ^ 23 → a.hi * b.hi < 2 ^ 127
mul_room f x y a b s p q r =
    let u = unit_most f s in
    let m = mul-le a.hi b.hi (x * 2 ^ f) (y * 2 ^ f) p q in
    let v = mul-le (2 ^ f) (2 ^ f) (2 ^ 52) (2 ^ 52) u u in
    let w = mul-le-mul_left (x * y) v in
    omega (arith, m, w, r)

-- the upper end of a product is at most the product of what the upper ends are at most
pub mul_below : (f x y : ℕ) (a b : Ends) → a.hi ≤ x * 2 ^ f → b.hi ≤ y * 2 ^ f → (ends_mul f a b).hi ≤ x * y * 2 ^ f
mul_below f x y a b p q =
    let t = div_ceil_times (a.hi * b.hi) (2 ^ f) (pow_pos f) in
    let m = mul-le a.hi b.hi (x * 2 ^ f) (y * 2 ^ f) p q in
    let k : div_ceil (a.hi * b.hi) (2 ^ f) < x * y * 2 ^ f + 1 = lt_of_mul-lt-mul_right (2 ^ f) (omega (arith, t.1, m)) in
    omega arith

-- ---- ends in decimals

text_value_is : (places n : ℕ) (p : 0 < 10 ^ places) → text_value places n ≈ over n (10 ^ places) p
unfolding ◌*ℚ◌ whole
text_value_is places n p =
    mul_cancel (whole (10 ^ places)) (unfold whole in p)
    (quotient (whole n) (whole (10 ^ places)) (unfold whole in p) ≈≈ record { cross = omega arith })

down_step : (o lo a b m n : ℕ) → 0 < o → n * o ≤ lo * m → lo * b ≤ a * o → n * b ≤ a * m
down_step o lo a b m n p h k =
    let x : b * (n * o) ≤ b * (lo * m) = mul-le-mul_left b h in
    let y : m * (lo * b) ≤ m * (a * o) = mul-le-mul_left m k in
    le_of_mul-le-mul_right {m = n * b} {n = a * m} {k = o} (omega arith) p

up_step : (o hi a b m n : ℕ) → 0 < o → hi * m ≤ n * o → a * o ≤ hi * b → a * m ≤ n * b
up_step o hi a b m n p h k =
    let x : b * (hi * m) ≤ b * (n * o) = mul-le-mul_left b h in
    let y : m * (a * o) ≤ m * (hi * b) = mul-le-mul_left m k in
    le_of_mul-le-mul_right {m = a * m} {n = n * b} {k = o} (omega arith) p

-- the lower end in decimals is at most each fraction of the interval
pub down_below : (f places : ℕ) (a : Ends) (q : Fraction) → In f a q → text_value places (a.lo * 10 ^ places / 2 ^ f) ≤ℚ q
down_below f places a q h =
    let p : 0 < 10 ^ places = one-le-pow places 10 (lit< tt) in
    le_same (turned (text_value_is places (a.lo * 10 ^ places / 2 ^ f) p)) (same q)
    (record { cross = down_step (2 ^ f) a.lo q.num q.den (10 ^ places) (a.lo * 10 ^ places / 2 ^ f) (pow_pos f) (div-mul-le_self (a.lo * 10 ^ places) (2 ^ f)) h.low })

-- the upper end in decimals is at least each fraction of the interval
pub up_above : (f places : ℕ) (a : Ends) (q : Fraction) → In f a q → q ≤ℚ text_value places (div_ceil (a.hi * 10 ^ places) (2 ^ f))
up_above f places a q h =
    let p : 0 < 10 ^ places = one-le-pow places 10 (lit< tt) in
    le_same (same q) (turned (text_value_is places (div_ceil (a.hi * 10 ^ places) (2 ^ f)) p))
    (record { cross = up_step (2 ^ f) a.hi q.num q.den (10 ^ places) (div_ceil (a.hi * 10 ^ places) (2 ^ f)) (pow_pos f) (ceil_above (a.hi * 10 ^ places) (2 ^ f) (pow_pos f)) h.high })

-- a fraction in decimals, rounded down, is at most that fraction
pub ratio_below : (num den places : ℕ) (p : 0 < den) → text_value places (num * 10 ^ places / den) ≤ℚ over num den p
ratio_below num den places p =
    le_same (turned (text_value_is places (num * 10 ^ places / den) (one-le-pow places 10 (lit< tt)))) (same (over num den p))
    (record { cross = div-mul-le_self (num * 10 ^ places) den })
