use Rattle.std.proofs.Common.{◌+◌, ◌*◌, ◌^◌, ◌≤◌}
use Rattle.family_bases.specs.declared.lows.Lows.{Lows}
use Rattle.depot_lows.proofs.Nearer.{IsSoFar}
use Rattle.depot_lows.proofs.passed.low_if_passed.Given as goal

abbrev pub invariant-loop-j : goal.invariant-loop-j
invariant-loop-j g l = record {
  low : IsSoFar g.S.Score.ends l.sources.family.now l.depot l.low.p l.low.q (λ (r : Lows). r.at_low) l.rough.bases.items l.j l.at_low;
  high : IsSoFar g.S.Score.ends l.sources.family.now l.depot l.high.p l.high.q (λ (r : Lows). r.at_high) l.rough.bases.items l.j l.at_high;
  most_low : l.at_low ≤ (l.j + 15) * 2 ^ 115;
  most_high : l.at_high ≤ (l.j + 15) * 2 ^ 115;
}
