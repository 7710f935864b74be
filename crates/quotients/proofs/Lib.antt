pub mod Public
pub mod Products
pub mod Rough
pub mod Rounded
