-- The backorders of one pipeline, by VARI-METRIC: C. C. Sherbrooke, Optimal Inventory Modeling of Systems, 2nd edition,
-- and VARI-METRIC, Operations Research 34 (1986).
--
-- A pipeline contains the units that are in repair or on their way. It has a mean u and a variance v, and is modelled
-- by a Poisson distribution, or by the negative binomial one of that mean and variance if v is above u. The backorders
-- at a stock of s units are the units in the pipeline above s. The series of probabilities is cut after a depth n, and
-- its weights are divided by their sum up to n. All numbers are exact.
use Rattle.std.specs.Prelude.{ℕ, zero, suc, ◌-◌, ◌*◌}
use Rattle.exact_model.specs.Fraction.{Fraction, whole, ◌+ℚ◌, ◌-ℚ◌, ◌*ℚ◌, ◌/ℚ◌, sum_below, larger}

-- ---- probabilities

-- d = max(0, v/u - 1): the variance-to-mean ratio above 1. It is 0 for Poisson
unfoldable pub excess : Fraction → Fraction → Fraction
excess u v = v /ℚ u -ℚ whole 1

-- w(0) = 1 and w(x + 1) = w(x) (u + x d) / ((x + 1) (1 + d))
unfoldable pub weight : Fraction → Fraction → ℕ → Fraction
weight u d zero = whole 1
weight u d (suc x) = weight u d x *ℚ (u +ℚ whole x *ℚ d) /ℚ (whole (suc x) *ℚ (whole 1 +ℚ d))

-- W_n = w(0) + .. + w(n)
unfoldable pub weight_sum : Fraction → Fraction → ℕ → Fraction
weight_sum u d n = sum_below (weight u d) (suc n)

-- p_n(x) = w(x) / W_n, the probability that the pipeline has x units
unfoldable pub chance : ℕ → Fraction → Fraction → ℕ → Fraction
chance n u v x = weight u (excess u v) x /ℚ weight_sum u (excess u v) n

-- ---- backorders

-- q, or 0 if the mean is 0: an empty pipeline has no backorders
unfoldable pub unless_zero : ℕ → Fraction → Fraction
unless_zero zero q = whole 0
unless_zero (suc m) q = q

-- EBO_n(s) = u - s + sum over x < s of (s - x) p_n(x), the expected backorders at a stock of s units
unfoldable pub ebo : ℕ → Fraction → Fraction → ℕ → Fraction
ebo n u v s = unless_zero u.num (u +ℚ sum_below (λ x. whole (s - x) *ℚ chance n u v x) s -ℚ whole s)

-- G_n(s) = 1 - (p_n(0) + .. + p_n(s)), the probability that there are backorders
unfoldable pub tail : ℕ → Fraction → Fraction → ℕ → Fraction
tail n u v s = unless_zero u.num (whole 1 -ℚ sum_below (chance n u v) (suc s))

-- E2_n(s) = v' + u^2 + s^2 - 2 s u - sum over x < s of (s - x)^2 p_n(x), with v' = max(v, u): the mean of the square of
-- the backorders
unfoldable pub second : ℕ → Fraction → Fraction → ℕ → Fraction
second n u v s =
    larger v u +ℚ u *ℚ u +ℚ whole (s * s) -ℚ whole (2 * s) *ℚ u
    -ℚ sum_below (λ x. whole ((s - x) * (s - x)) *ℚ chance n u v x) s

-- VBO_n(s) = max(0, E2_n(s) - EBO_n(s)^2), the variance of backorders
unfoldable pub vbo : ℕ → Fraction → Fraction → ℕ → Fraction
vbo n u v s = unless_zero u.num (second n u v s -ℚ ebo n u v s *ℚ ebo n u v s)

-- the terms added in E2_n(s) - EBO_n(s)^2: v' + u^2 + s^2
abbrev pub raised : Fraction → Fraction → ℕ → Fraction
raised u v s = larger v u +ℚ u *ℚ u +ℚ whole (s * s)

-- the terms subtracted in it: 2 s u, the sum over x < s, and the square of the backorders
abbrev pub lowered : ℕ → Fraction → Fraction → ℕ → Fraction
lowered n u v s =
    whole (2 * s) *ℚ u +ℚ sum_below (λ x. whole ((s - x) * (s - x)) *ℚ chance n u v x) s +ℚ ebo n u v s *ℚ ebo n u v s

-- ---- weights beside one another

-- w(k + 1) / w(k)
unfoldable pub ratio : Fraction → Fraction → ℕ → Fraction
ratio u d k = (u +ℚ whole k *ℚ d) /ℚ (whole (suc k) *ℚ (whole 1 +ℚ d))

-- w(k) / w(k + 1)
unfoldable pub back : Fraction → Fraction → ℕ → Fraction
back u d k = (whole (suc k) *ℚ (whole 1 +ℚ d)) /ℚ (u +ℚ whole k *ℚ d)

-- w(x) / w(c): a weight relative to the weight at the pivot c
unfoldable pub relative : Fraction → Fraction → ℕ → ℕ → Fraction
relative u d c x = weight u d x /ℚ weight u d c

-- W_n / w(c)
unfoldable pub relative_sum : Fraction → Fraction → ℕ → ℕ → Fraction
relative_sum u d c n = weight_sum u d n /ℚ weight u d c
