-- The lemmas of this crate that crates above may cite, by the files that prove them.
pub use Rattle.price_certificate.proofs.Exact.{certificate_is_exact}
pub use Rattle.price_certificate.proofs.Families.{are_places}
pub use Rattle.price_certificate.proofs.Fits.{count_within, covers_at, fits_case, format_fits, later_fits, objective_at, well_formed_fits}
pub use Rattle.price_certificate.proofs.Inverse.{again}
pub use Rattle.price_certificate.proofs.Sequences.{with_sites}
pub use Rattle.price_certificate.proofs.Trims.{put_here, put_there, trim_is}
pub use Rattle.price_certificate.proofs.Written.{joined}
