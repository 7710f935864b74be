pub mod Rest
pub mod Fields
pub mod Tables
pub mod Sites
pub mod Parts
pub mod Rates
pub mod Stocks
