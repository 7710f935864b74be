use Rattle.std.proofs.Common.{◌≡◌, map, take, All}
use Rattle.base_pipeline.specs.Exact.{IsSmallDelay}
use Rattle.spares_input.specs.declared.rows.PartId.{PartId}
use Rattle.metric_compare.specs.Profile.{poisson_base_shop, delay}
use Rattle.metric_compare.proofs.lines.delays_at.Given as goal

abbrev pub invariant-loop-unit : goal.invariant-loop-unit
invariant-loop-unit l = record {
  delay : l.all.items ≡ map (λ (p : PartId). delay 48 (poisson_base_shop 48 l.fn.inputs.case l.fn.inputs.stocks.list p.0 l.fn.base.0)) (take l.unit-index l.fn.units);
  small : All (IsSmallDelay 48) l.all.items;
}
