-- A ratio of weights in parts, and the next one by additions. No promise of the crate rests on these words.
use Rattle.std.specs.Prelude.{ℕ, ◌≡◌, ◌+◌, ◌-◌, ◌*◌, ◌^◌, ◌<◌, ◌≤◌}
use Rattle.fixed_interval.specs.Ends.{Ends}
use Rattle.quotients.specs.Parts.{AreParts}
use Rattle.series_bounds.specs.declared.ratios.Ratios.{Ratios}

-- the ends of an excess are at most 1 apart, and have 62 bits
pub record IsNear (f : ℕ) (d : Ends) : Type 0 where
  pub close : d.hi ≤ 2 ^ f + d.lo
  pub short : d.hi < 2 ^ 62

-- the ends of the ratio at x before their division by x, and the increments to the next index: the upper one is raised
-- by x times its divisor, less 1, so that both are rounded down
pub record AreRatios (f : ℕ) (m d : Ends) (x : ℕ) (ratios : Ratios f) : Type 0 where
  pub low : AreParts ((m.lo + d.lo * (x - 1)) * 2 ^ f) (1 * 2 ^ f + d.hi) ratios.low
  pub high : AreParts ((m.hi + d.hi * (x - 1)) * 2 ^ f + x * (1 * 2 ^ f + d.lo) - 1) (1 * 2 ^ f + d.lo) ratios.high
  pub low_step : AreParts (d.lo * 2 ^ f) (1 * 2 ^ f + d.hi) ratios.low_step
  pub high_step : AreParts (d.hi * 2 ^ f + (1 * 2 ^ f + d.lo)) (1 * 2 ^ f + d.lo) ratios.high_step
  pub by_low : ratios.by_low ≡ 1 * 2 ^ f + d.hi
  pub by_high : ratios.by_high ≡ 1 * 2 ^ f + d.lo
