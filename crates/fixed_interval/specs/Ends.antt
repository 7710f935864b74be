-- Intervals by their ends, and the rounding of each operation. An end is a whole number in units of 2^-f.
use Rattle.std.specs.Prelude.{ℕ, zero, suc, ◌+◌, ◌-◌, ◌*◌, ◌/◌, ◌^◌, ◌≤◌, ◌<◌, min, max}
use Rattle.std.specs.Int.{div_ceil}
use Rattle.exact_model.specs.Fraction.{Fraction, Contains}

-- the two ends of an interval
pub record Ends : Type 0 where
  pub lo : ℕ
  pub hi : ℕ

-- the range of the number of binary places
abbrev pub InScale : ℕ → Type 0
InScale f = (24 ≤ f) × (f ≤ 52)

-- the invariant of every interval with f places
pub record IsInterval (f : ℕ) (x : Ends) : Type 0 where
  pub least_scale : 24 ≤ f
  pub most_scale : f ≤ 52
  pub ordered : x.lo ≤ x.hi
  pub room : x.hi < 2 ^ 127

-- the interval contains the fraction q
abbrev pub In : ℕ → Ends → Fraction → Type 0
In f x q = Contains f x.lo x.hi q

-- no end is above 256, the limit of means and variances
abbrev pub IsWithinLimit : ℕ → Ends → Type 0
IsWithinLimit f x = x.hi ≤ 256 * 2 ^ f

-- ---- the ends of each operation: `a / b` is a quotient rounded down, and `div_ceil a b` rounded up

-- the whole number k
abbrev pub ends_exact : ℕ → ℕ → Ends
ends_exact f k = record { lo = k * 2 ^ f; hi = k * 2 ^ f }

-- num / den
abbrev pub ends_ratio : ℕ → ℕ → ℕ → Ends
ends_ratio f num den = record { lo = num * 2 ^ f / den; hi = div_ceil (num * 2 ^ f) den }

-- a and b together
abbrev pub ends_add : Ends → Ends → Ends
ends_add a b = record { lo = a.lo + b.lo; hi = a.hi + b.hi }

-- a - b, cut at 0 as `-` is
abbrev pub ends_less : Ends → Ends → Ends
ends_less a b = record { lo = a.lo - b.hi; hi = a.hi - b.lo }

-- k times a
abbrev pub ends_times : Ends → ℕ → Ends
ends_times a k = record { lo = a.lo * k; hi = a.hi * k }

-- a over k
abbrev pub ends_over : Ends → ℕ → Ends
ends_over a k = record { lo = a.lo / k; hi = div_ceil a.hi k }

-- a times b
abbrev pub ends_mul : ℕ → Ends → Ends → Ends
ends_mul f a b = record { lo = a.lo * b.lo / 2 ^ f; hi = div_ceil (a.hi * b.hi) (2 ^ f) }

-- a^(k + 1): a multiplied by itself k times, from the left
unfoldable pub ends_power : (f : ℕ) → Ends → ℕ → Ends
ends_power f a zero = a
ends_power f a (suc k) = ends_mul f (ends_power f a k) a

-- a over b
abbrev pub ends_div : ℕ → Ends → Ends → Ends
ends_div f a b = record { lo = a.lo * 2 ^ f / b.hi; hi = div_ceil (a.hi * 2 ^ f) b.lo }

-- the larger of a and b, end by end
abbrev pub ends_max : Ends → Ends → Ends
ends_max a b = record { lo = max a.lo b.lo; hi = max a.hi b.hi }

-- a, known to be at most c units
abbrev pub ends_capped : Ends → ℕ → Ends
ends_capped a c = record { lo = min a.lo c; hi = min a.hi c }
