use Rattle.std.proofs.Common.{◌∙◌}
use Rattle.spares_input.specs.declared.rows.PartId.{PartId}
use Rattle.metric_compare.specs.Profile.{poisson_base_shop, delay}
use Rattle.metric_compare.proofs.Pipes.{by_ids, few_of, units_are}
use Rattle.metric_compare.proofs.lines.line_at_base.Goals as goal

pub delays_at-requires-clause-units : goal.delays_at-requires-clause-units
delays_at-requires-clause-units c = units_are c.args.inputs.now.case c.args.line.0 c.args.units.now c.invariant.ensures.valid.valid c.requires.line c.requires.units

pub base_line_at-requires-clause-few : goal.base_line_at-requires-clause-few
base_line_at-requires-clause-few c =
    few_of c.args.inputs.now.case c.args.line.0 (λ (p : PartId). delay 48 (poisson_base_shop 48 c.args.inputs.now.case c.args.inputs.now.stocks.list p.0 c.args.base.0)) c.args.units.now
    c.as_slice.result.now c.invariant.ensures.valid.valid c.requires.line c.requires.units (c.as_slice.ensures.value ∙ c.in_ok-delay.ensures.delay)

pub base_line_at-requires-clause-delay : goal.base_line_at-requires-clause-delay
base_line_at-requires-clause-delay c =
    c.as_slice.ensures.value ∙ c.in_ok-delay.ensures.delay
    ∙ by_ids c.args.inputs.now.case c.args.line.0 (λ i. delay 48 (poisson_base_shop 48 c.args.inputs.now.case c.args.inputs.now.stocks.list i c.args.base.0)) c.args.units.now c.requires.units
