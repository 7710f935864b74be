-- The lemmas of this crate that crates above may cite, by the files that prove them.
pub use Rattle.fixed_interval.proofs.Laws.{add_encloses, capped_encloses, div_encloses, down_below, ends_ordered, exact_encloses, high_le, less_encloses, low_le, max_encloses, mul_below, mul_encloses, mul_room, over_encloses, power_encloses, quotient_is, ratio_below, ratio_encloses, times_encloses, unit_most, up_above}
pub use Rattle.fixed_interval.proofs.Text.{after_last_digits, last_digits_none, length_last_digits}
