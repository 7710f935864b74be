use Rattle.gap_rules.proofs.Readings.{trees_are_read, only_trees_are_read}
use Rattle.gap_rules.proofs.laws.trees_are_read.Goals as goal

pub returns-clause-trees : goal.returns-clause-trees
returns-clause-trees c = trees_are_read

pub returns-clause-only : goal.returns-clause-only
returns-clause-only c = only_trees_are_read
