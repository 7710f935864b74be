pub mod Profile
pub mod Encloses
pub mod Inputs
