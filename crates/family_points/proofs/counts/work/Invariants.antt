use Rattle.std.proofs.Common.{◌≡◌, sum_by}
use Rattle.answers.specs.Counts.{count64}
use Rattle.family_points.specs.Counts.{tables_of}
use Rattle.family_points.proofs.Counting.{first_units}
use Rattle.family_points.proofs.counts.work.Given as goal

abbrev pub invariant-loop-line : goal.invariant-loop-line
invariant-loop-line l = l.work ≡ count64 (sum_by (tables_of l.case) (first_units l.lines l.line-index))
