use Rattle.std.proofs.Common.{take}
use Rattle.std.specs.List.{AllZip}
use Rattle.family_points.specs.Inputs.{shop_vectors}
use Rattle.family_bases.specs.Lows.{AreUnderEach}
use Rattle.family_bases.proofs.lows.put_lows.Given as goal

abbrev pub invariant-loop-n : goal.invariant-loop-n
invariant-loop-n g l = record {
  under : AllZip (AreUnderEach g.S.Score.ends l.here.family.now l.here.depot.now l.here.site.0 l.low l.high) (take l.n (shop_vectors l.here.family.now l.here.site.0)) l.lows.items;
}
