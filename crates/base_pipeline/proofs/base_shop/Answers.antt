use Rattle.std.proofs.Common.{sym, subst}
use Rattle.exact_model.specs.Fraction.{◌+ℚ◌, ◌*ℚ◌}
use Rattle.fixed_interval.specs.Ends.{Ends, In}
use Rattle.exact_model.specs.Shares.{shared}
use Rattle.depot_pipeline.proofs.Public.{mean_part_in, variance_part_in}
use Rattle.base_pipeline.proofs.base_shop.Goals as goal

pub returns-clause-mean : goal.returns-clause-mean
returns-clause-mean g c d f e v h a most =
    c.capped.ensures.encloses (d +ℚ f *ℚ e) most
    (c.add.ensures.encloses d (f *ℚ e) h
    (subst (λ (z : Ends). In g.row.F z (f *ℚ e)) (sym c.mean_of.ensures.ends) (mean_part_in g.row.F c.args.depot f e v a)))

pub returns-clause-variance : goal.returns-clause-variance
returns-clause-variance g c d f e v h a most =
    c.capped-2.ensures.encloses (d +ℚ shared f e v) most
    (c.add-2.ensures.encloses d (shared f e v) h
    (subst (λ (z : Ends). In g.row.F z (shared f e v)) (sym c.variance_of.ensures.ends) (variance_part_in g.row.F c.args.depot f e v a)))
