-- The lemmas of this crate that crates above may cite, by the files that prove them.
pub use Rattle.exact_model.proofs.Fractions.{add_same, contains_same, div_same, first_power, larger_is, le_chain, le_plus, le_same, le_self, mul_cancel, mul_same, next_power, none_plus, nothing_less, nothing_more, one_times, over, plus_assoc, positive_same, quotient, same, sub_same, sum_same, times_assoc, times_right_comm, turned, whole_plus, ◌≈≈◌}
pub use Rattle.exact_model.proofs.Relative.{limit_in, positive_in, relative_down, relative_self, relative_up}
pub use Rattle.exact_model.proofs.Remainder.{sum_encloses}
pub use Rattle.exact_model.proofs.Same.{ebo_none, ebo_same, vbo_same, zeros_same}
pub use Rattle.exact_model.proofs.Spread.{spread_falls}
pub use Rattle.exact_model.proofs.Sums.{ebo_within, vbo_within}
pub use Rattle.exact_model.proofs.Table.{chance_relative, ebo_first, ebo_least, ebo_most, ebo_next, tail_first, tail_most, vbo_first, vbo_most}
