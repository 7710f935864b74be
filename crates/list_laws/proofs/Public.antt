-- The lemmas of this crate that crates above may cite, by the files that prove them.
pub use Rattle.list_laws.proofs.Counting.{all_numbered, count_from, each_in_range, each_that_passes, few_that_pass, filter_next, flat_at, flat_length, kept_more, left_out, mapped_from, mapped_more, passed, range_more, read_from, rows_more}
pub use Rattle.list_laws.proofs.Digits.{after_append, after_grows, first_digit, part_below}
pub use Rattle.list_laws.proofs.Lists.{all_are, all_follow, all_of, at_each, begins_with_first, bytes_same, each_any, each_append, each_both, each_map, each_mapped, flat_flat, joined_more, less_or, map_each, map_flat, no_more_than_self, position_mapped, pushed_all, pushed_next, put_all, put_next, rest_begins, same_flat, same_length, same_map, set_first, take_next, take_on, zip_push}
pub use Rattle.list_laws.proofs.Numbers.{all_places, before_next, below_more, below_or, ceil_above, ceil_by_sum, ceil_is, ceil_le, ceil_most, chosen_most, first_or_later, floor_below_ceil, fraction_below, fractions_fall, fractions_fall_on, le_or_gt, min_steps, one_of, place_fits, products_same, ratio_stays, room_for, same_number, same_or_not, some_of_less, sum_no_less, sum_no_more, weighted_no_less, within_product, zero_most}
pub use Rattle.list_laws.proofs.Options.{after_ok, else_none, map_none, none_of, not_some}
pub use Rattle.list_laws.proofs.Sums.{count_each, later, same_sum_range, sum_cons, sum_each, sum_flat, sum_mapped, sum_more, sum_plus, sum_turned, total, total_most}
