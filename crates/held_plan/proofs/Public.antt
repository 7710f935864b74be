-- The lemmas of this crate that crates above may cite, by the files that prove them.
pub use Rattle.held_plan.proofs.HeldFacts.{families_long, points_in}
pub use Rattle.held_plan.proofs.KeptFacts.{kept_elsewhere, kept_with}
