pub mod Beside
pub mod Picked
pub mod Steps
pub mod Ranges
pub mod Wider
pub mod Found
pub mod Widened
