-- The lemmas of this crate that crates above may cite, by the files that prove them.
pub use Rattle.base_pipeline.proofs.Walk.{started}
