use Rattle.std.proofs.Common.{◌≡◌, ℕ, ◌-◌, ◌*◌, ◌^◌, ◌<◌, ◌≤◌, drop, length, sum_by}
use Rattle.fleet_model.specs.Laws.{IsBase}
use Rattle.family_bases.specs.declared.lows.Lows.{Lows}
use Rattle.depot_lows.specs.Rough.{AreUnderBase, lows_of}
use Rattle.depot_lows.proofs.rough.RoughLows.put.Given as goal

abbrev pub invariant-loop-j : goal.invariant-loop-j
invariant-loop-j g l = record {
  count : length l.self.bases.items ≡ l.j - 1;
  under : (i : ℕ) → IsBase l.sources.family.now.case i → i < l.j
      → AreUnderBase g.S.Score.ends l.sources.family.now (drop 1 l.depot) i l.low l.high (lows_of l.self.bases.items i);
  sum_low : l.self.sum.at_low ≡ sum_by (λ (r : Lows). r.at_low) l.self.bases.items;
  sum_high : l.self.sum.at_high ≡ sum_by (λ (r : Lows). r.at_high) l.self.bases.items;
  most_low : l.self.sum.at_low ≤ (l.j - 1) * 2 ^ 115;
  most_high : l.self.sum.at_high ≤ (l.j - 1) * 2 ^ 115;
}
