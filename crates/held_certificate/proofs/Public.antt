-- The lemmas of this crate that crates above may cite, by the files that prove them.
pub use Rattle.held_certificate.proofs.Exact.{small_at}
pub use Rattle.held_certificate.proofs.Inverse.{again, held_fits}
pub use Rattle.held_certificate.proofs.Refused.{held_form, plain_form}
