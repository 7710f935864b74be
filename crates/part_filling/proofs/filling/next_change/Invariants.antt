use Rattle.std.proofs.Common.{◌≡◌, ◌+◌}
use Rattle.price_bounds.specs.Sums.{cost_of}
use Rattle.step_walk.specs.Prefix.{AreVertices, picked}
use Rattle.part_filling.specs.Known.{AreKnown}
use Rattle.part_filling.specs.Widening.{rooms}
use Rattle.part_filling.proofs.Found.{IsBestKnown}
use Rattle.part_filling.proofs.filling.next_change.Given as goal

abbrev pub invariant-passes : goal.invariant-passes
invariant-passes g l = record {
  known : AreKnown (g.F.Families.points l.families) l.known.curves.items l.known.windows.items l.known.beyond.items;
  vertices : AreVertices l.known.curves.items l.known.picks.items;
  picks : picked l.known.curves.items l.known.picks.items ≡ picked l.initial.known.curves.items l.initial.known.picks.items;
  best : IsBestKnown l.known.curves.items (cost_of (picked l.known.curves.items l.known.picks.items) + l.left) l.known.picks.items l.change;
}

abbrev pub decreases-passes : goal.decreases-passes
decreases-passes g l = rooms l.known.windows.items
