use Rattle.std.proofs.Common.{◌≡◌, ℕ, ◌+◌, List, IfSome}
use Rattle.hull.specs.declared.point.Point.{Point}
use Rattle.price_bounds.specs.Sums.{cost_of, hi_of}
use Rattle.step_walk.specs.Prefix.{AreVertices, picked}
use Rattle.marginal_alloc.specs.Choice.{AreCurves}
use Rattle.marginal_alloc.specs.Filling.{Fills, IsBestChange}
use Rattle.part_filling.specs.Known.{AreKnown, ArePlaces, IsFound}
use Rattle.part_filling.proofs.filling.fill_parts.Given as goal

abbrev pub invariant-changes : goal.invariant-changes
invariant-changes g l = record {
  known : AreKnown (g.F.Families.points l.families) l.known.curves.items l.known.windows.items l.known.beyond.items;
  vertices : AreVertices l.known.curves.items l.known.picks.items;
  money : cost_of (picked l.known.curves.items l.known.picks.items) + l.left ≡ l.budget;
  some : IfSome l.found (λ c. IsBestChange l.known.curves.items l.budget l.known.picks.items c.family c.vertex);
  found : IsFound (g.F.Families.points l.families) l.budget l.known.curves.items l.known.picks.items l.found;
  on : (curves : List (List Point)) (starts : List ℕ) → AreCurves (g.F.Families.points l.families) curves → ArePlaces curves starts l.fn.known.curves.items l.fn.known.picks.items
      → (places : List ℕ) × ArePlaces curves places l.known.curves.items l.known.picks.items × ((end : List ℕ) → Fills curves l.budget places end → Fills curves l.budget starts end);
}

abbrev pub decreases-changes : goal.decreases-changes
decreases-changes g l = hi_of (picked l.known.curves.items l.known.picks.items)
