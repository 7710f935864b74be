-- The lemmas of this crate that crates above may cite, by the files that prove them.
pub use Rattle.curve_parts.proofs.Behind.{none_dearer}
pub use Rattle.curve_parts.proofs.Between.{alone_between, both_between, part_of_curve, part_stands, self_between}
pub use Rattle.curve_parts.proofs.Beyond.{all_known, beyond_gap, beyond_less, beyond_sums, curve_known, known_joined, known_left_out, known_of_members}
pub use Rattle.curve_parts.proofs.Cuts.{cut_is_part}
pub use Rattle.curve_parts.proofs.Ends.{first_least, last_least}
pub use Rattle.curve_parts.proofs.Exist.{has_curve}
pub use Rattle.curve_parts.proofs.Shape.{between_within, curve_some, part_convex, part_has_those, part_is_cut, part_some}
pub use Rattle.curve_parts.proofs.Sums.{sums_between}
