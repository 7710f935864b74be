pub mod Public
pub mod Tabled
pub mod Rows
pub mod Counted
