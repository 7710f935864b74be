-- The four pipelines of a family if each is Poisson: the variance of each is its mean, at every level. The means follow
-- the model, with these pipelines' own backorders.
use Rattle.std.specs.Prelude.{ℕ, List}
use Rattle.exact_model.specs.Fraction.{Fraction, whole, ◌+ℚ◌, ◌*ℚ◌}
use Rattle.exact_model.specs.Series.{ebo}
use Rattle.exact_model.specs.Sums.{sum_over}
use Rattle.spares_input.specs.Cases.{CaseRows}
use Rattle.spares_input.specs.Frames.{line_of}
use Rattle.fleet_model.specs.Rows.{bases, line_units, shop_units, stock, weight}
use Rattle.fleet_model.specs.Demand.{f_i0, f_ij, f_0j}
use Rattle.fleet_model.specs.ZeroStock.{direct_i0, direct_00, direct_ij, direct_0j}
use Rattle.fleet_model.specs.Pairs.{by_pair}

-- the shop unit at the depot
unfoldable pub mean_i0 : CaseRows → ℕ → ℕ → Fraction
mean_i0 c l i = direct_i0 c l i

-- its expected backorders at its stock, at depth n, if the variance is the mean
unfoldable pub poisson_i0 : CaseRows → List ℕ → ℕ → ℕ → ℕ → Fraction
poisson_i0 c s n l i = ebo n (mean_i0 c l i) (mean_i0 c l i) (stock c s i 0)

-- the line unit at the depot
unfoldable pub mean_00 : CaseRows → List ℕ → ℕ → ℕ → Fraction
mean_00 c s n l = direct_00 c l +ℚ sum_over (shop_units c l) (λ i. f_i0 c l i *ℚ poisson_i0 c s n l i)

-- its expected backorders at its stock, at depth n, if the variance is the mean
unfoldable pub poisson_00 : CaseRows → List ℕ → ℕ → ℕ → Fraction
poisson_00 c s n l = ebo n (mean_00 c s n l) (mean_00 c s n l) (stock c s l 0)

-- the shop unit at base j
unfoldable pub mean_ij : CaseRows → List ℕ → ℕ → ℕ → ℕ → ℕ → Fraction
mean_ij c s n l i j = direct_ij c l i j +ℚ f_ij c l i j *ℚ poisson_i0 c s n l i

-- its expected backorders at its stock, at depth n, if the variance is the mean
unfoldable pub poisson_ij : CaseRows → List ℕ → ℕ → ℕ → ℕ → ℕ → Fraction
poisson_ij c s n l i j = ebo n (mean_ij c s n l i j) (mean_ij c s n l i j) (stock c s i j)

-- the line unit at base j
unfoldable pub mean_0j : CaseRows → List ℕ → ℕ → ℕ → ℕ → Fraction
mean_0j c s n l j = direct_0j c l j +ℚ f_0j c l j *ℚ poisson_00 c s n l +ℚ sum_over (shop_units c l)
    (λ i. poisson_ij c s n l i j)

-- its expected backorders at its stock, at depth n, if the variance is the mean
unfoldable pub poisson_0j : CaseRows → List ℕ → ℕ → ℕ → ℕ → Fraction
poisson_0j c s n l j = ebo n (mean_0j c s n l j) (mean_0j c s n l j) (stock c s l j)

-- ---- by pair, and added up

-- the backorders of part p at site k, at depth n
abbrev pub poisson : CaseRows → List ℕ → ℕ → ℕ → ℕ → Fraction
poisson c s p k n = by_pair (poisson_i0 c s n) (poisson_00 c s n) (poisson_ij c s n) (poisson_0j c s n)
    (line_of c.parts p) p k

-- the sum over all bases of the weight of the line unit l times its backorders there
unfoldable pub poisson_family_total : CaseRows → List ℕ → ℕ → ℕ → Fraction
poisson_family_total c s n l = sum_over (bases c) (λ j. whole (weight c l) *ℚ poisson_0j c s n l j)

-- the sum of these over all line units
unfoldable pub poisson_total : CaseRows → List ℕ → ℕ → Fraction
poisson_total c s n = sum_over (line_units c) (poisson_family_total c s n)
