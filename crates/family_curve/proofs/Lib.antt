pub mod LowCurves
pub mod Grown
pub mod Under
