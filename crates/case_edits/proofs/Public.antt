-- The lemmas of this crate that crates above may cite, by the files that prove them.
pub use Rattle.case_edits.proofs.LineFacts.{no_lines}
