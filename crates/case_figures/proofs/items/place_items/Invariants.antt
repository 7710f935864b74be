use Rattle.std.proofs.Common.{◌≡◌, ◌*◌, length, take}
use Rattle.case_figures.specs.Gathering.{placed_compact}
use Rattle.case_figures.proofs.items.place_items.Given as goal

abbrev pub invariant-loop-item : goal.invariant-loop-item
invariant-loop-item g l = record {
  places : l.places ≡ placed_compact l.case l.initial.places (take l.item-index l.items);
  room : length l.places ≡ length l.case.parts * length l.case.sites;
}
