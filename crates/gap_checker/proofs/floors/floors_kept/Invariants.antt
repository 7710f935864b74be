use Rattle.std.proofs.Common.{◌≡◌, None}
use Rattle.spares_input.specs.First.{first}
use Rattle.gap_rules.specs.Refusals.{low_reject_at}
use Rattle.gap_checker.proofs.floors.floors_kept.Given as goal

abbrev pub invariant-loop-f : goal.invariant-loop-f
invariant-loop-f g l = first (low_reject_at g.S.Score.ends l.fn.cert l.fn.held) l.f ≡ None
