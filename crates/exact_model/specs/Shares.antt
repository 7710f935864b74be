-- A share of backorders.
use Rattle.exact_model.specs.Fraction.{Fraction, whole, ◌+ℚ◌, ◌-ℚ◌, ◌*ℚ◌}

-- f (1 - f) e + f^2 v: the variance of the share f of backorders with the mean e and the variance v, each of which
-- belongs to that share independently
unfoldable pub shared : Fraction → Fraction → Fraction → Fraction
shared f e v = f *ℚ (whole 1 -ℚ f) *ℚ e +ℚ f *ℚ f *ℚ v
