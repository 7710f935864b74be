-- The definitions at small numbers: EBO, the tail and VBO of some pipelines, worked by hand.
use Rattle.std.proofs.Common.{ℕ, suc, refl, zero-lt-suc}
use Rattle.exact_model.specs.Fraction.{Fraction, whole, ◌≈◌, ◌+ℚ◌, ◌-ℚ◌, ◌*ℚ◌, ◌/ℚ◌, scaled, sum_below, larger}
use Rattle.exact_model.specs.Series.{excess, weight, weight_sum, chance, unless_zero, ebo, tail, second, vbo}
use Rattle.exact_model.proofs.Fractions.{over}

-- n / d, written with d - 1
abbrev over_next : ℕ → ℕ → Fraction
over_next n d = over n (suc d) (zero-lt-suc d)

-- EBO, tail and VBO of a mean and a variance at a depth and a stock
abbrev Row : (n : ℕ) (u v : Fraction) (s : ℕ) → Fraction → Fraction → Fraction → Type 0
Row n u v s backorders more spread = (ebo n u v s ≈ backorders) × (tail n u v s ≈ more) × (vbo n u v s ≈ spread)

-- mean 1, variance 1, depth 2: the weights are 1, 1, 1/2
poisson : Row 2 (whole 1) (whole 1) 1 (over_next 2 4) (over_next 1 4) (over_next 11 24)
unfolding ebo tail vbo second larger unless_zero sum_below chance weight_sum weight excess ◌/ℚ◌ scaled ◌+ℚ◌ ◌-ℚ◌ ◌*ℚ◌ whole
poisson = (record { cross = refl }, record { cross = refl }, record { cross = refl })

-- mean 1, variance 2, depth 2: the weights are 1, 1/2, 1/4
binomial : Row 2 (whole 1) (whole 2) 1 (over_next 4 6) (over_next 1 6) (over_next 54 48)
unfolding ebo tail vbo second larger unless_zero sum_below chance weight_sum weight excess ◌/ℚ◌ scaled ◌+ℚ◌ ◌-ℚ◌ ◌*ℚ◌ whole
binomial = (record { cross = refl }, record { cross = refl }, record { cross = refl })

-- mean 1, variance 2, depth 3, stock 2: the weights are 1, 1/2, 1/4, 1/8
binomial_deeper : Row 3 (whole 1) (whole 2) 2 (over_next 1 2) (over_next 1 14) (over_next 22 44)
unfolding ebo tail vbo second larger unless_zero sum_below chance weight_sum weight excess ◌/ℚ◌ scaled ◌+ℚ◌ ◌-ℚ◌ ◌*ℚ◌ whole
binomial_deeper = (record { cross = refl }, record { cross = refl }, record { cross = refl })

-- mean 2, variance 3/2, depth 3: Poisson weights 1, 2, 2, 4/3, since the variance is below the mean
below_poisson : Row 3 (whole 2) (over_next 3 1) 1 (over_next 22 18) (over_next 10 18) (over_next 542 360)
unfolding ebo tail vbo second larger unless_zero sum_below chance weight_sum weight excess ◌/ℚ◌ scaled ◌+ℚ◌ ◌-ℚ◌ ◌*ℚ◌ whole
below_poisson = (record { cross = refl }, record { cross = refl }, record { cross = refl })

-- mean 2, variance 3, depth 3, stock 2: the weights are 1, 4/3, 10/9, 20/27
spread_out : Row 3 (whole 2) (whole 3) 2 (over_next 90 112) (over_next 20 112) (over_next 13935 12768)
unfolding ebo tail vbo second larger unless_zero sum_below chance weight_sum weight excess ◌/ℚ◌ scaled ◌+ℚ◌ ◌-ℚ◌ ◌*ℚ◌ whole
spread_out = (record { cross = refl }, record { cross = refl }, record { cross = refl })

-- mean 1, variance 1, depth 1, stock 2: E2 - EBO^2 is -1/2, so the variance is cut at 0
cut : Row 1 (whole 1) (whole 1) 2 (over_next 1 1) (whole 0) (whole 0)
unfolding ebo tail vbo second larger unless_zero sum_below chance weight_sum weight excess ◌/ℚ◌ scaled ◌+ℚ◌ ◌-ℚ◌ ◌*ℚ◌ whole
cut = (record { cross = refl }, record { cross = refl }, record { cross = refl })

-- with a mean of 0 there are no backorders
none : Row 2 (whole 0) (whole 2) 1 (whole 0) (whole 0) (whole 0)
unfolding ebo tail vbo unless_zero whole
none = (record { cross = refl }, record { cross = refl }, record { cross = refl })
