use Rattle.std.proofs.Common.{◌≤◌, ◌^◌, lit<, ap, sym, ◌∙◌, subst}
use Rattle.list_laws.proofs.Public.{pushed_all, pushed_next}
use Rattle.fixed_interval.specs.Ends.{Ends}
use Rattle.case_figures.specs.Gathering.{IsFamilyOf, factor_from}
use Rattle.case_figures.proofs.Rows.{pushed_has}
use Rattle.case_figures.proofs.bases.base_factors.Goals as goal

pub factor_from-requires : goal.factor_from-requires
factor_from-requires g c =
    let family = subst (IsFamilyOf g.row.F c.args.case.now) (sym c.family-item.is) (c.requires.families c.loop-family.family-index c.family-item.result c.loop-family-test.true) in
    (lit< tt, (lit< tt, (family, c.requires.base)))

pub loop-family-preserved : goal.loop-family-preserved
loop-family-preserved g c =
    let f = g.row.F in
    let own = factor_from f c.args.case.now c.args.base.0 in
    let old = c.loop-family.factors.items in
    record {
      factors =
          pushed_next own c.args.families.now c.loop-family.family-index c.family-item.result old c.push.new.self.items c.factor_from.result c.loop-family-test.true
          c.in_ok-push.ensures.items c.loop-family.invariant.factors (c.factor_from.ensures.factor ∙ ap own c.family-item.is);
      most =
          pushed_has (λ (x : Ends). x.hi ≤ 2 ^ f) old c.push.new.self.items c.factor_from.result c.in_ok-push.ensures.items c.loop-family.invariant.most c.factor_from.ensures.most;
    }

pub returns : goal.returns
returns g c = record {
  factors =
      pushed_all (factor_from g.row.F c.args.case.now c.args.base.0) c.args.families.now c.loop-family.family-index c.loop-family.factors.items c.loop-family-test.false
      c.loop-family.invariant.factors;
  most = c.loop-family.invariant.most;
}
