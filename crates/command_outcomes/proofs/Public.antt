-- The lemmas of this crate that crates above may cite, by the files that prove them.
pub use Rattle.command_outcomes.proofs.Shown.{shown, span_prints}
pub use Rattle.command_outcomes.proofs.TrueAnswers.{made_in_turn}
pub use Rattle.command_outcomes.proofs.Whole.{done, made_of, performed, refused, refused_words, stops, unread}
