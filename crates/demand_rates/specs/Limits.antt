-- The limits of a valid case's numbers, and the rules that a pair may break.
use Rattle.std.specs.Prelude.{ℕ, ◌*◌, ◌<◌, ◌≤◌, ◌&&◌, nat_lt, length, Option, Some, None, if◌then◌else◌}
use Rattle.exact_ratio.specs.declared.ratio.Ratio.{Ratio}
use Rattle.spares_input.specs.First.{first}
use Rattle.spares_input.specs.Limits.{most_days}
use Rattle.spares_input.specs.Pairs.{part_of_place, site_of_place}
use Rattle.spares_input.specs.Cases.{CaseRows, frame_rows, pair_count}
use Rattle.spares_input.specs.declared.rows.PartId.{PartId}
use Rattle.spares_input.specs.declared.rows.SiteId.{SiteId}
use Rattle.spares_input.specs.declared.rows.RateRow.{RateRow}
use Rattle.fleet_model.specs.Units.{demand_units, direct_units, zero_stock_units, pipeline_scale}
use Rattle.demand_rates.specs.declared.fault.Place.{Place}
use Rattle.demand_rates.specs.declared.fault.Place.TheVariants.{Pair}
use Rattle.demand_rates.specs.declared.fault.RateFault.{RateFault}
use Rattle.demand_rates.specs.declared.fault.RateFault.TheVariants.{ThinPipeline, PipelineTooLarge, PipelineRatio}

-- every field of a row of rates is at most its limit
pub record IsRate (r : RateRow) : Type 0 where
  pub demand : r.demand ≤ 1000000000
  pub here : r.repair_here ≤ 10000
  pub share : r.share ≤ 10000
  pub days : r.repair_days ≤ most_days

-- a pipeline as a ratio, from its numerator over 365 * 10^18
abbrev pub in_days : ℕ → Ratio
in_days n = record { num = n; den = pipeline_scale }

-- the first rule that a pipeline breaks by its demand, its direct part D and its zero-stock mean M: a demand above 0
-- with D < 1/10,000,000; M > 256; M > 1024 * D
abbrev pub pipeline_rule : Place → ℕ → ℕ → ℕ → Option RateFault
pipeline_rule at demand direct mean =
    if nat_lt 0 demand && nat_lt (direct * 10000000) pipeline_scale then Some (ThinPipeline at (in_days direct))
    else if nat_lt (256 * pipeline_scale) mean then Some (PipelineTooLarge at (in_days mean))
    else if nat_lt (1024 * direct) mean then Some (PipelineRatio at (in_days mean) (in_days direct))
    else None

-- the rule that a pair of the case breaks
abbrev pub pair_fault : CaseRows → PartId → SiteId → Option RateFault
pair_fault c part site =
    pipeline_rule (Pair part site) (demand_units c part.0 site.0) (direct_units c part.0 site.0)
    (zero_stock_units c part.0 site.0)

-- the rule that the pair at place i breaks
abbrev pub place_fault : CaseRows → ℕ → Option RateFault
place_fault c i = pair_fault c (part_of_place (length c.sites) i) (site_of_place (length c.sites) i)

-- the first rule that a case's rates break, by part and then by site
abbrev pub rate_fault_of : CaseRows → Option RateFault
rate_fault_of c = first (place_fault c) (pair_count (frame_rows c))

-- the ranges of demand, D and M of a pair that breaks no rule
pub record IsAccepted (demand direct mean : ℕ) : Type 0 where
  pub thick : 0 < demand → pipeline_scale ≤ direct * 10000000
  pub small : mean ≤ 256 * pipeline_scale
  pub ratio : mean ≤ 1024 * direct
