-- The lemmas of this crate that crates above may cite, by the files that prove them.
pub use Rattle.budget_sweep.proofs.Told.{point_true, target_true}
