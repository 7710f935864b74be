pub mod Public
pub mod Exact
pub mod Inverse
pub mod Found
pub mod Refused
