-- Fractions: a whole number over a positive whole number, never reduced, compared by cross products. There are no
-- negative ones: a difference is cut at 0, and a quotient by 0 is 0.
use Rattle.std.specs.Prelude.{◌≡◌, ℕ, zero, suc, ◌+◌, ◌-◌, ◌*◌, ◌<◌, ◌≤◌, ◌^◌}
use Rattle.std.proofs.Common.{zero-lt-suc}
use Rattle.std.proofs.Math.Nat.{mul-pos}

-- a whole number over a positive whole number
pub record Fraction : Type 0 where
  pub num : ℕ
  pub den : ℕ
  pub positive : 0 < den

-- the whole number n
unfoldable pub whole : ℕ → Fraction
whole n = record { num = n; den = 1; positive = zero-lt-suc 0 }

-- two fractions are the same value
infix 4 ◌≈◌
pub record ◌≈◌ (q r : Fraction) : Type 0 where
  pub cross : q.num * r.den ≡ r.num * q.den

-- the first is at most the second
infix 4 ◌≤ℚ◌
pub record ◌≤ℚ◌ (q r : Fraction) : Type 0 where
  pub cross : q.num * r.den ≤ r.num * q.den

-- the sum
infixl 6 ◌+ℚ◌
unfoldable pub ◌+ℚ◌ : Fraction → Fraction → Fraction
q +ℚ r = record { num = q.num * r.den + r.num * q.den; den = q.den * r.den; positive = mul-pos q.positive r.positive }

-- the difference, cut at 0
infixl 6 ◌-ℚ◌
unfoldable pub ◌-ℚ◌ : Fraction → Fraction → Fraction
q -ℚ r = record { num = q.num * r.den - r.num * q.den; den = q.den * r.den; positive = mul-pos q.positive r.positive }

-- the product
infixl 7 ◌*ℚ◌
unfoldable pub ◌*ℚ◌ : Fraction → Fraction → Fraction
q *ℚ r = record { num = q.num * r.num; den = q.den * r.den; positive = mul-pos q.positive r.positive }

-- q times top over bottom, 0 if bottom is 0
unfoldable pub scaled : Fraction → ℕ → ℕ → Fraction
unfolding whole
scaled q top zero = whole 0
scaled q top (suc n) = record { num = q.num * top; den = q.den * suc n; positive = mul-pos q.positive (zero-lt-suc n) }

-- the quotient, 0 if the divisor is 0
infixl 7 ◌/ℚ◌
unfoldable pub ◌/ℚ◌ : Fraction → Fraction → Fraction
q /ℚ r = scaled q r.den r.num

-- the larger of two: r plus the excess of q over r
unfoldable pub larger : Fraction → Fraction → Fraction
larger q r = r +ℚ (q -ℚ r)

-- f(0) + .. + f(n - 1)
unfoldable pub sum_below : (ℕ → Fraction) → ℕ → Fraction
sum_below f zero = whole 0
sum_below f (suc n) = sum_below f n +ℚ f n

-- the interval from lo to hi, in units of 2^-bits, contains the fraction: lo <= q 2^bits <= hi
pub record Contains (bits lo hi : ℕ) (q : Fraction) : Type 0 where
  pub low : lo * q.den ≤ q.num * 2 ^ bits
  pub high : q.num * 2 ^ bits ≤ hi * q.den

-- the interval contains the value of q at each depth n from 1024 on
abbrev pub Encloses : ℕ → ℕ → ℕ → (ℕ → Fraction) → Type 0
Encloses bits lo hi q = (n : ℕ) → 1024 ≤ n → Contains bits lo hi (q n)
