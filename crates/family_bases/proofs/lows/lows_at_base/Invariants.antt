use Rattle.std.proofs.Common.{ℕ, ◌^◌, ◌≤◌, List, take}
use Rattle.hull.specs.Curves.{Among}
use Rattle.family_points.specs.Inputs.{line_high, line_low, shop_vectors}
use Rattle.family_bases.specs.Lows.{AreUnder}
use Rattle.family_bases.proofs.lows.lows_at_base.Given as goal

abbrev pub invariant-loop-n : goal.invariant-loop-n
invariant-loop-n g l = record {
  under : (w : List ℕ) → Among w (take l.n (shop_vectors l.here.family.now l.here.site.0)) → (s : ℕ) → line_low l.here.family.now l.here.site.0 ≤ s → s ≤ line_high l.here.family.now l.here.site.0
      → AreUnder g.S.Score.ends l.here.family.now l.here.depot.now l.here.site.0 l.low l.high w s l.least;
  most_low : l.least.at_low ≤ 2 ^ 115;
  most_high : l.least.at_high ≤ 2 ^ 115;
}
