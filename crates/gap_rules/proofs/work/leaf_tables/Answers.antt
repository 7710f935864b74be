use Rattle.std.proofs.Common.{sym, ap, ◌∙◌}
use Rattle.answers.specs.Counts.{count64}
use Rattle.gap_rules.specs.Values.{leaf_tables}
use Rattle.gap_rules.proofs.work.leaf_tables.Goals as goal

pub returns-in-Cost : goal.returns-in-Cost
unfolding leaf_tables
returns-in-Cost c = sym (ap (λ x. count64 (leaf_tables c.args.case.now c.args.line.0 x)) c.in-Cost.is)

pub returns : goal.returns
unfolding leaf_tables
returns c = c.tables_within.ensures ∙ sym (ap (λ x. count64 (leaf_tables c.args.case.now c.args.line.0 x)) c.in-Whole.is)
