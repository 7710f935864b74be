pub mod Gathered
pub mod Found
pub mod Keyed
mod KeptItems
