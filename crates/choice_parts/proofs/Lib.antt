pub mod Public
pub mod Prefixes
pub mod Chosen
pub mod Placing
pub mod OfCurves
