use Rattle.std.proofs.Common.{◌≡◌, ◌++◌, take}
use Rattle.family_rows.proofs.base.BaseSpotSpot.put_stocks.Given as goal

abbrev pub invariant-loop-n : goal.invariant-loop-n
invariant-loop-n l = l.to.items ≡ l.initial.to.items ++ take l.n l.self.shops.now
