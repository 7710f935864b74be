use Rattle.std.proofs.Common.{sym, ap, ◌∙◌}
use Rattle.answers.specs.Counts.{count64}
use Rattle.family_points.proofs.Whole.{tables_whole}
use Rattle.family_points.proofs.counts.tables.Goals as goal

pub returns : goal.returns
returns c = c.count_tables.ensures ∙ sym (ap count64 (tables_whole c.args.case.now c.args.line.0 c.invariant.ensures.valid))
