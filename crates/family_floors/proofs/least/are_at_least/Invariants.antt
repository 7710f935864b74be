use Rattle.std.proofs.Common.{◌≡◌, ◌-◌, ◌<◌, ◌∷◌, drop, flat_map, length}
use Rattle.std.specs.List.{range_with_len}
use Rattle.family_points.specs.Separation.{depot_points}
use Rattle.family_points.specs.Inputs.{line_low}
use Rattle.family_points.specs.Least.{AreAtLeast}
use Rattle.family_floors.proofs.least.are_at_least.Given as goal

abbrev pub invariant-loop-s : goal.invariant-loop-s
invariant-loop-s g l = record {
  least : AreAtLeast l.price.p l.price.q l.floor (flat_map (λ s. depot_points g.S.Score.ends l.sources.family.now (s ∷ drop 1 l.fn.stocks)) (range_with_len (line_low l.sources.family.now 0) (l.s - line_low l.sources.family.now 0)));
  some : 0 < length l.stocks;
  shops : drop 1 l.stocks ≡ drop 1 l.fn.stocks;
}
