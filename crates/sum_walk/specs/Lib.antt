pub mod Lanes
pub mod Order
pub mod Passed
pub mod Steps
pub mod Sums
