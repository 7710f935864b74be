-- The refusal of a single pipeline. Its mean and its variance are numbers of ten-thousandths.
use Rattle.std.specs.Prelude.{◌≤◌, ◌*◌, ℕ, Option, Some, None, if◌then◌else◌, nat_lt}
use Rattle.std.specs.Option.{option_or}
use Rattle.exact_ratio.specs.declared.ratio.Ratio.{Ratio}
use Rattle.demand_rates.specs.declared.fault.Place.TheVariants.{Single}
use Rattle.demand_rates.specs.declared.fault.RateFault.{RateFault}
use Rattle.demand_rates.specs.declared.fault.RateFault.TheVariants.{PipelineTooLarge, PipelineRatio}

-- n ten-thousandths, not reduced
abbrev pub of_ten_thousand : ℕ → Ratio
of_ten_thousand n = record { num = n; den = 10000 }

-- a mean or a variance is at most 256
abbrev pub limit : ℕ
limit = 256 * 10000

-- the refusal of a mean or a variance above the limit
abbrev pub limit_fault_of : ℕ → Option RateFault
limit_fault_of n = if nat_lt limit n then Some (PipelineTooLarge Single (of_ten_thousand n)) else None

-- a variance is at most 1024 times the mean
abbrev pub ratio_fault_of : ℕ → ℕ → Option RateFault
ratio_fault_of mean variance =
    if nat_lt (1024 * mean) variance
    then Some (PipelineRatio Single (of_ten_thousand variance) (of_ten_thousand mean))
    else None

-- the first rule that is broken, with the numbers that break it
abbrev pub single_fault_of : ℕ → ℕ → Option RateFault
single_fault_of mean variance =
    option_or (limit_fault_of mean) (option_or (limit_fault_of variance) (ratio_fault_of mean variance))

-- no rule is broken
pub record WithinLimits (mean variance : ℕ) : Type 0 where
  pub small_mean : mean ≤ limit
  pub small_variance : variance ≤ limit
  pub small_ratio : variance ≤ 1024 * mean
