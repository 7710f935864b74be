use Rattle.std.proofs.Common.{◌≡◌, ℕ, List}
use Rattle.family_bases.specs.Lows.{line_place}
use Rattle.family_bases.proofs.lows.reach_least.Given as goal

abbrev pub invariant-loop-k : goal.invariant-loop-k
invariant-loop-k l = record {
  stock : l.walk.stock ≡ l._k;
  walk : (shops : List ℕ) → l.fn.walk ≡ line_place l.here.family.now l.here.depot.now l.here.site.0 shops 0
      → l.walk ≡ line_place l.here.family.now l.here.depot.now l.here.site.0 shops l._k;
}
