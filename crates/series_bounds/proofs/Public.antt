-- The lemmas of this crate that crates above may cite, by the files that prove them.
pub use Rattle.series_bounds.proofs.Bounds.{exists_is, pivot_is}
pub use Rattle.series_bounds.proofs.Enclosure.{known_answer, last_most, length_listed, listed_at, profile_encloses, profile_sized, sum_hi, wide_answer}
pub use Rattle.series_bounds.proofs.Ranges.{room_over}
pub use Rattle.series_bounds.proofs.Unlisted.{sum_known, weight_listed}
pub use Rattle.series_bounds.proofs.Walks.{end_from_63, last_start, listed_same, narrow_from, pivot_below_last, weight_at_pivot, weight_down, weight_up}
