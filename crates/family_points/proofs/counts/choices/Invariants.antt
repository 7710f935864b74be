use Rattle.std.proofs.Common.{◌≡◌}
use Rattle.answers.specs.Counts.{count64}
use Rattle.family_points.proofs.Rooms.{sites_product}
use Rattle.family_points.proofs.counts.choices.Given as goal

abbrev pub invariant-loop-k : goal.invariant-loop-k
invariant-loop-k l = l.choices ≡ count64 (sites_product l.case l.fn.line.0 l.k)
