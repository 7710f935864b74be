use Rattle.std.proofs.Common.{◌≤◌, length, map, take}
use Rattle.hull.specs.Curves.{StandFor}
use Rattle.base_parts.specs.Choices.{kept_points}
use Rattle.base_parts.proofs.choices.put_kept.Given as goal

abbrev pub invariant-loop-n : goal.invariant-loop-n
invariant-loop-n g l = record {
  stands : StandFor (kept_points g.S.Score.ends l.here (map (λ r. r.items) l.rows) (take l.n l.here.base.now.order.items)) l.chain;
  few : length l.chain ≤ l.n;
}
