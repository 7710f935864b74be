use Rattle.std.proofs.Common.{ℕ, ◌^◌, ◌≤◌, List, take, drop}
use Rattle.hull.specs.Curves.{Among}
use Rattle.family_points.specs.Inputs.{shop_vectors}
use Rattle.depot_lows.specs.Rough.{AreUnderLines}
use Rattle.depot_lows.proofs.rough.rough_at_base.Given as goal

abbrev pub invariant-loop-n : goal.invariant-loop-n
invariant-loop-n g l = record {
  under : (w : List ℕ) → Among w (take l.n (shop_vectors l.here.family.now l.here.site.0))
      → AreUnderLines g.S.Score.ends l.here.family.now (drop 1 l.here.depot.now) l.here.site.0 l.low l.high w l.least;
  most_low : l.least.at_low ≤ 2 ^ 115;
  most_high : l.least.at_high ≤ 2 ^ 115;
}
