pub mod Public
pub mod Greedy
pub mod Taking
pub mod Waiting
pub mod Turns
pub mod Going
pub mod Steeper
