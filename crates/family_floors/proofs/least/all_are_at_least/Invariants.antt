use Rattle.std.proofs.Common.{◌∷◌, flat_map, take}
use Rattle.family_points.specs.Separation.{depot_points}
use Rattle.family_points.specs.Inputs.{line_stocks, shop_vectors}
use Rattle.family_points.specs.Least.{AreAtLeast}
use Rattle.family_floors.proofs.least.all_are_at_least.Given as goal

abbrev pub invariant-loop-n : goal.invariant-loop-n
invariant-loop-n g l = AreAtLeast l.price.p l.price.q l.floor (flat_map (λ d. flat_map (λ s. depot_points g.S.Score.ends l.sources.family.now (s ∷ d)) (line_stocks l.sources.family.now 0)) (take l.n (shop_vectors l.sources.family.now 0)))
