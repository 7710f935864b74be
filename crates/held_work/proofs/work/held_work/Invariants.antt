use Rattle.std.proofs.Common.{◌≡◌, sum_by}
use Rattle.answers.specs.Counts.{count64}
use Rattle.family_points.proofs.Public.{first_units}
use Rattle.held_work.proofs.Kept.{tables_at}
use Rattle.held_work.proofs.work.held_work.Given as goal

abbrev pub invariant-loop-line : goal.invariant-loop-line
invariant-loop-line l = l.work ≡ count64 (sum_by (tables_at l.case l.held.list) (first_units l.lines l.line-index))
