use Rattle.std.proofs.Common.{◌≡◌, take}
use Rattle.std.specs.List.{AllZip, AllByRecursion}
use Rattle.hull.specs.Curves.{IsShape}
use Rattle.sum_walk.specs.declared.lanes.Lane.{Lane}
use Rattle.sum_walk.specs.Lanes.{IsOn}
use Rattle.sum_walk.proofs.lanes.put_lanes.Given as goal

abbrev pub invariant-loop-j : goal.invariant-loop-j
invariant-loop-j g l = record {
  on : AllZip IsOn (take l.j l.curves) l.lanes.items;
  shapes : AllByRecursion IsShape (take l.j l.curves);
  start : AllByRecursion (λ (r : Lane). r.at ≡ 0) l.lanes.items;
}
