pub mod Prefix
pub mod Steps
pub mod Order
pub mod Walks
pub mod Steep
