pub mod Work
pub mod LowCurves
pub mod Under
pub mod Numbered
