pub mod Public
pub mod Whole
pub mod Fractions
pub mod Cleared
pub mod Remainder
pub mod Spread
pub mod Relative
pub mod Table
pub mod Later
pub mod Same
pub mod Sums
mod Rows
