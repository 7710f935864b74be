use Rattle.std.proofs.Common.{◌≡◌, None, take}
use Rattle.spares_input.specs.First.{first}
use Rattle.spares_input.specs.Frames.{double_part}
use Rattle.spares_input.specs.Building.{AreDistinct, ArePlaces}
use Rattle.spares_input.proofs.frame.places_of.Given as goal

abbrev pub invariant-loop-k : goal.invariant-loop-k
invariant-loop-k l = record {
  fault : first (double_part l.parts) l.k ≡ None;
  placed : ArePlaces l.places (take l.k l.parts);
  distinct : AreDistinct (take l.k l.parts);
}
