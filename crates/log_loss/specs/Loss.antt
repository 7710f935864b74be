-- The loss of a share, and the loss of a line unit at a base.
use Rattle.std.specs.Prelude.{ℕ, suc, ◌*◌}
use Rattle.exact_model.specs.Fraction.{Fraction, whole, sum_below, ◌-ℚ◌, ◌*ℚ◌, ◌/ℚ◌}
use Rattle.exact_model.specs.Sums.{power}

-- y^(k + 1) / (k + 1)
abbrev pub term : Fraction → ℕ → Fraction
term y k = power y (suc k) /ℚ whole (suc k)

-- y + y^2 / 2 + .. + y^n / n, which tends to -ln(1 - y) as n grows
abbrev pub loss : ℕ → Fraction → Fraction
loss n y = sum_below (term y) n

-- the smaller of two: q less its excess over r
abbrev pub smaller : Fraction → Fraction → Fraction
smaller q r = q -ℚ (q -ℚ r)

-- the share of N Z places that e backorders leave empty, at most 7/8
abbrev pub empty_share : (systems per_system : ℕ) → Fraction → Fraction
empty_share systems per_system e = smaller (e /ℚ whole (systems * per_system)) (whole 7 /ℚ whole 8)

-- N Z times the loss of that share
abbrev pub loss_of : (systems per_system : ℕ) → Fraction → ℕ → Fraction
loss_of systems per_system e n = whole (systems * per_system) *ℚ loss n (empty_share systems per_system e)
