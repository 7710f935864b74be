pub mod Single
pub mod Limits
pub mod RateLists
pub mod Rates
pub mod Waits
pub mod Depot
