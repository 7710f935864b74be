pub mod Profile
pub mod Report
pub mod Shows
pub mod Fits
pub mod Texts
pub mod Levels
