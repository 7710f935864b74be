use Rattle.fixed_interval.specs.Ends.{ends_exact}
use Rattle.depot_pipeline.proofs.Public.{Summed}
use Rattle.base_pipeline.specs.Profile.{delay_at}
use Rattle.family_numbers.specs.Numbers.{base_delays}
use Rattle.family_numbers.proofs.shop_part.shop_part.Given as goal

abbrev pub invariant-loop-i : goal.invariant-loop-i
invariant-loop-i g l = record {
  mean : Summed g.row.F 768 (ends_exact g.row.F 0) (λ n. (delay_at (base_delays g.row.F l.fn.numbers l.fn.site.0 l.fn.depot l.fn.base) n).backorders) l.mean l.i;
  variance : Summed g.row.F 768 (ends_exact g.row.F 0) (λ n. (delay_at (base_delays g.row.F l.fn.numbers l.fn.site.0 l.fn.depot l.fn.base) n).spread) l.variance l.i;
}
