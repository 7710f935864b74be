pub mod Kept
pub mod Bases
