use Rattle.held_plan.specs.Kept.{AreKeptIn}
use Rattle.held_plan.proofs.FirstParts.{AreFirstParts}
use Rattle.held_plan.proofs.parts.parts_between.Given as goal

abbrev pub invariant-loop-f : goal.invariant-loop-f
invariant-loop-f g l = record {
  parts : AreFirstParts l.fn.window.low l.fn.window.high (g.F.Families.points l.fn.families) l.curves.items l.beyond.items l.f;
  kept : AreKeptIn l.fn.window (g.F.Families.points l.fn.families) l.kept.items;
}
