pub mod Grown
pub mod InTurn
pub mod Whole
pub mod Sums
