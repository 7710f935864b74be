pub mod Sums
pub mod Values
pub mod Certificates
pub mod Allocations
pub mod Soundness
