use Rattle.std.proofs.Common.{◌≡◌, None}
use Rattle.answers.specs.Counts.{count64}
use Rattle.spares_input.specs.First.{first}
use Rattle.gap_rules.specs.Refusals.{gap_at, tables_of_first}
use Rattle.gap_rules.proofs.covers.covers_kept.Given as goal

abbrev pub invariant-loop-f : goal.invariant-loop-f
invariant-loop-f l = record {
  gaps : first (gap_at l.fn.cert l.fn.held) l.f ≡ None;
  count : l.work ≡ count64 (tables_of_first l.fn.cert l.fn.held l.f);
}
