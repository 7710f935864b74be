pub mod Lows
pub mod Joining
