pub mod Public
pub mod Refuse
