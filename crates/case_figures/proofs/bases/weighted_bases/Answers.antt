use Rattle.std.proofs.Common.{ap, ◌∙◌, List, arith}
use Rattle.fixed_interval.specs.Ends.{Ends}
use Rattle.spares_input.specs.declared.rows.SiteRow.{SiteRow}
use Rattle.availability.specs.Profile.{base_ends}
use Rattle.availability.specs.Exact.{IsWeighted}
use Rattle.case_figures.specs.Gathering.{weighted_from}
use Rattle.case_figures.proofs.Rows.{pushed, pushed_has, of_base}
use Rattle.case_figures.proofs.bases.weighted_bases.Goals as goal

pub loop-k-preserved : goal.loop-k-preserved
loop-k-preserved g c =
    let k = c.loop-k.k in
    let f = g.row.F in
    let systems = of_base c.site.result.now k c.site.ensures.fields c.site.ensures.depot (omega (arith, c.loop-k.auto.k)) in
    let factors = c.as_slice.ensures.value ∙ c.in_ok-factors.ensures.factors in
    let value = c.base_availability.ensures.ends ∙ ap (λ (xs : List Ends). base_ends f xs) factors in
    let row = ap (λ (r : SiteRow). r.systems) c.site.ensures.row in
    record {
      bases =
          pushed (weighted_from f c.args.case.now c.args.families.now) k c.loop-k.bases.items c.push.new.self.items _ (omega (arith, c.loop-k.auto.k))
          c.in_ok-push.ensures.items c.loop-k.invariant.bases
          (λ i. record { systems = row i; value = value i });
      weighted =
          pushed_has (IsWeighted f) c.loop-k.bases.items c.push.new.self.items _ c.in_ok-push.ensures.items c.loop-k.invariant.weighted
          (record { some_systems = systems.0; few_systems = systems.1; value = c.base_availability.ensures.most });
    }
