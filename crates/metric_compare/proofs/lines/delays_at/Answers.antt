use Rattle.std.proofs.Common.{◌≡◌, ap, get_or}
use Rattle.std.proofs.lemmas.List.Elements.{All-push}
use Rattle.list_laws.proofs.Public.{pushed_all, pushed_next}
use Rattle.fixed_interval.specs.Ends.{Ends}
use Rattle.spares_input.specs.declared.rows.PartId.{PartId}
use Rattle.base_pipeline.specs.declared.Held.{Held}
use Rattle.base_pipeline.specs.Exact.{IsSmallDelay}
use Rattle.metric_compare.specs.Profile.{poisson_base_shop, delay}
use Rattle.metric_compare.proofs.lines.delays_at.Goals as goal

pub at_base-backorders-requires-clause-unit : goal.at_base-backorders-requires-clause-unit
at_base-backorders-requires-clause-unit c = c.requires.units c.loop-unit.unit-index _ c.loop-unit-test.true

pub loop-unit-preserved : goal.loop-unit-preserved
loop-unit-preserved c =
    let f = λ (p : PartId). delay 48 (poisson_base_shop 48 c.args.inputs.now.case c.args.inputs.now.stocks.list p.0 c.args.base.0) in
    let unit : PartId = get_or c.args.units.now c.loop-unit.unit-index (record { 0 = 0 }) in
    let made : Held 48 = delay 48 c.at_base-backorders.result in
    let is : made ≡ f unit = ap (λ (x : Ends). delay 48 x) c.at_base-backorders.ensures.ends in
    let small : IsSmallDelay 48 made = record { backorders = c.at_base-backorders.ensures.small; spread = c.at_base-backorders.ensures.small } in
    record {
      delay = pushed_next f c.args.units.now c.loop-unit.unit-index (record { 0 = 0 }) c.loop-unit.all.items c.push.new.self.items made c.loop-unit-test.true c.in_ok-push.ensures.items
          c.loop-unit.invariant.delay is;
      small = rw c.in_ok-push.ensures.items (All-push (IsSmallDelay 48) c.loop-unit.all.items made c.loop-unit.invariant.small small);
    }

pub returns-clause-delay : goal.returns-clause-delay
returns-clause-delay c =
    pushed_all (λ (p : PartId). delay 48 (poisson_base_shop 48 c.args.inputs.now.case c.args.inputs.now.stocks.list p.0 c.args.base.0)) c.args.units.now c.loop-unit.unit-index c.loop-unit.all.items
    c.loop-unit-test.false c.loop-unit.invariant.delay
