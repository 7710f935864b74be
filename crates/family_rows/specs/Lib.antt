pub mod Tabled
pub mod Spots
pub mod Sources
