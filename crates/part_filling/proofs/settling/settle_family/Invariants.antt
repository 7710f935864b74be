use Rattle.std.proofs.Common.{◌≡◌, ◌<◌, length}
use Rattle.step_walk.specs.Prefix.{AreVertices, picked}
use Rattle.part_filling.specs.Known.{AreKnown}
use Rattle.part_filling.specs.Widening.{HasWidened, OthersStay, rooms}
use Rattle.part_filling.proofs.settling.settle_family.Given as goal

abbrev pub invariant-wider : goal.invariant-wider
invariant-wider g l = record {
  known : AreKnown (g.F.Families.points l.families) l.known.curves.items l.known.windows.items l.known.beyond.items;
  vertices : AreVertices l.known.curves.items l.known.picks.items;
  family : l.family < length l.known.curves.items;
  picks : picked l.known.curves.items l.known.picks.items ≡ picked l.initial.known.curves.items l.initial.known.picks.items;
  others : OthersStay l.family l.initial.known l.known;
  widened : HasWidened l.widened l.initial.known l.known;
}

abbrev pub decreases-wider : goal.decreases-wider
decreases-wider g l = rooms l.known.windows.items
