pub mod Inverses
pub mod Divisors
pub mod Parts
