-- The lemmas of this crate that crates above may cite, by the files that prove them.
pub use Rattle.case_maker.proofs.Valid.{made_few, made_lines, made_valid, never_refused}
pub use Rattle.case_maker.proofs.Whole.{made_drawn}
