use Rattle.std.proofs.Common.{◌≡◌, ◌*◌, length, take}
use Rattle.case_figures.specs.Gathering.{compact_by_pair}
use Rattle.case_figures.proofs.items.compact_by_pair.Given as goal

abbrev pub invariant-loop-family : goal.invariant-loop-family
invariant-loop-family g l = record {
  places : l.places.items ≡ compact_by_pair l.case (take l.family-index l.families);
  room : length l.places.items ≡ length l.case.parts * length l.case.sites;
}
