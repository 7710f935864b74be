use Rattle.std.proofs.Common.{◌≡◌, ℕ, ◌<◌}
use Rattle.step_walk.specs.Prefix.{AreVertices, picked}
use Rattle.part_filling.specs.Known.{AreKnown, IsSettled}
use Rattle.part_filling.specs.Widening.{HasWidened}
use Rattle.part_filling.proofs.settling.settle.Given as goal

abbrev pub invariant-families : goal.invariant-families
invariant-families g l = record {
  known : AreKnown (g.F.Families.points l.families) l.known.curves.items l.known.windows.items l.known.beyond.items;
  vertices : AreVertices l.known.curves.items l.known.picks.items;
  picks : picked l.known.curves.items l.known.picks.items ≡ picked l.initial.known.curves.items l.initial.known.picks.items;
  settled : (h : ℕ) → h < l.f → IsSettled l.known.windows.items l.known.beyond.items l.known.curves.items l.known.picks.items l.left l.most h;
  widened : HasWidened l.widened l.initial.known l.known;
}
