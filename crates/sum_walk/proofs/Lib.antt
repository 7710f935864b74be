pub mod Public
mod Curve
pub mod Lists
mod NoVertex
mod OnCurves
mod Ordered
pub mod Parts
mod Passing
mod Places
mod Queued
mod Rest
mod Totals
mod Compared
