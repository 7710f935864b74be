pub mod Spans
pub mod Narrow
pub mod Compact
pub mod Fits
pub mod Figures
pub mod Shows
pub mod Gathering
