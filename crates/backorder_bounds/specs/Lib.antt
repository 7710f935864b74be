pub mod Places
pub mod Coarse
pub mod Lead
pub mod Falling
