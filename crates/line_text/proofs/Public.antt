-- The lemmas of this crate that crates above may cite, by the files that prove them.
pub use Rattle.line_text.proofs.Cursors.{empty_lines, line_found, line_missing, line_read, never_ended, one_line}
pub use Rattle.line_text.proofs.FieldLaws.{a_field, count_fields_are_exact, count_line_is_exact, counted_is_exact, empty_field_is_exact, is_field, length_numbers_from, no_field_is_exact, number_is_exact, number_line_is_exact, one_for_each_is_exact, plain_is_exact, word_is_exact, word_line_is_exact}
pub use Rattle.line_text.proofs.Files.{answer_again, answer_refuses, answer_takes}
pub use Rattle.line_text.proofs.Laws.{as_shape_is_exact, bad, both_are_exact, each_after_is_exact, length_after, one_is_exact}
pub use Rattle.line_text.proofs.LineLaws.{concat_lines, line_is_exact, lines_again, lines_at, spelled_is_exact, split_of, unended_again}
pub use Rattle.line_text.proofs.Loops.{one_text, print_end, print_step, text_from, with_front}
pub use Rattle.line_text.proofs.MoreFields.{either_is_exact, fixed_is_exact, if_any_is_exact, only_is_exact}
pub use Rattle.line_text.proofs.Parts.{all_put}
pub use Rattle.line_text.proofs.Sizes.{TakesAtMost, Takes, both_take, chosen_takes, concat_most, count_line_takes, counted_take, counted_takes, either_takes, empty_field_takes, fixed_takes, if_any_takes, line_takes, no_field_takes, number_line_takes, number_takes, one_for_each_takes, only_takes, plain_takes, rows_take, shape_takes, token_takes, width, with_room, word_takes}
pub use Rattle.line_text.proofs.Steps.{done, only_falls, only_stands, read_from, step, stops}
