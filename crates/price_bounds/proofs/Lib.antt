pub mod Public
pub mod Mixture
pub mod Duality
pub mod Units
pub mod Floors
pub mod Kept
pub mod Vectors
