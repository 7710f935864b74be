use Rattle.std.proofs.Common.{◌≡◌, ℕ, ◌≤◌}
use Rattle.family_points.specs.Inputs.{line_low}
use Rattle.family_bases.specs.Lows.{AreNoHigher, AreUnder, line_place}
use Rattle.family_bases.proofs.lows.lower_at_shops.Given as goal

abbrev pub invariant-loop-s : goal.invariant-loop-s
invariant-loop-s g l = record {
  walk : l.walk ≡ line_place l.here.family.now l.here.depot.now l.here.site.0 l.shops.stocks l.s;
  lower : AreNoHigher l.found l.fn.least;
  under : (k : ℕ) → line_low l.here.family.now l.here.site.0 ≤ k → k ≤ l.s
      → AreUnder g.S.Score.ends l.here.family.now l.here.depot.now l.here.site.0 l.low l.high l.shops.stocks k l.found;
}
