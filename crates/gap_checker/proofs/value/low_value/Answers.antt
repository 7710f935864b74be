use Rattle.std.proofs.Common.{◌≡◌, ◌*◌, ◌≤◌, sym, ap, ◌∙◌, subst}
use Rattle.std.specs.Prelude.{IfOk}
use Rattle.gap_rules.specs.Boxes.{AtMost, IsOrdered}
use Rattle.family_points.specs.Points.{added_cost}
use Rattle.family_points.specs.Vectors.{limits}
use Rattle.gap_rules.specs.Covers.{box_of}
use Rattle.gap_rules.specs.Values.{below, leaf_tables, value_of_leaf}
use Rattle.gap_rules.proofs.Public.{at_most_chain}
use Rattle.gap_checker.proofs.value.low_value.Goals as goal

pub added_cost-cost-requires-clause-limit : goal.added_cost-cost-requires-clause-limit
added_cost-cost-requires-clause-limit g c =
    let o : IsOrdered c.args.rated.now.case c.args.line.0 c.in-Cost.bounds = subst (λ x. IsOrdered c.args.rated.now.case c.args.line.0 (box_of x)) c.in-Cost.is c.requires.ordered in
    rw c.case.ensures (subst (λ z. AtMost z (limits c.args.rated.now.case c.args.line.0)) (sym c.as_slice-in-Cost.ensures) (at_most_chain c.in-Cost.bounds.low c.in-Cost.bounds.high (limits c.args.rated.now.case c.args.line.0) o.low_least o.within))

pub low_within-requires-clause-work : goal.low_within-requires-clause-work
unfolding leaf_tables
low_within-requires-clause-work g c = subst (λ x. leaf_tables c.args.rated.now.case c.args.line.0 x ≤ 1000000) c.in-Whole.is c.requires.work

pub returns-in-Cost : goal.returns-in-Cost
unfolding value_of_leaf
returns-in-Cost g c =
    c.below.ensures
    ∙ ap (λ z. below c.args.floor (c.args.price.p * z)) (c.from.ensures ∙ (rw c.case.ensures at c.added_cost-cost.ensures.cost))
    ∙ ap (λ z. below c.args.floor (c.args.price.p * added_cost c.args.rated.now.case c.args.line.0 z c.as_slice-in-Cost.result.now)) c.as_slice.ensures
    ∙ ap (λ z. below c.args.floor (c.args.price.p * added_cost c.args.rated.now.case c.args.line.0 c.in-Cost.bounds.held z)) c.as_slice-in-Cost.ensures
    ∙ sym (ap (λ x. below c.args.floor (value_of_leaf c.args.rated.now.case c.args.line.0 g.S.Score.ends c.args.price x)) c.in-Cost.is)

pub returns-in-Whole : goal.returns-in-Whole
unfolding value_of_leaf
returns-in-Whole g c =
    subst (λ x. IfOk c.low_within.result (λ low. low ≡ below c.args.floor (value_of_leaf c.args.rated.now.case c.args.line.0 g.S.Score.ends c.args.price x))) (sym c.in-Whole.is) c.low_within.ensures
