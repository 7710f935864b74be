pub mod Public
pub mod Sums
pub mod Within
pub mod Ranges
pub mod DepotFacts
pub mod WaitFacts
pub mod RateFacts
