-- The lemmas of this crate that crates above may cite, by the files that prove them.
pub use Rattle.demo_accepts.proofs.Accepted.{faultless}
pub use Rattle.demo_accepts.proofs.FewTables.{all_few, work_few}
pub use Rattle.demo_accepts.proofs.Nothing.{zeros_hold}
