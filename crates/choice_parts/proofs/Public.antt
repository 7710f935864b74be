-- The lemmas of this crate that crates above may cite, by the files that prove them.
pub use Rattle.choice_parts.proofs.Chosen.{chosen}
pub use Rattle.choice_parts.proofs.OfCurves.{curves_of, in_shape, parts_of_curves}
pub use Rattle.choice_parts.proofs.Placing.{IsPlacedPart, at_right, cut_placed}
pub use Rattle.choice_parts.proofs.Prefixes.{picks_same}
