pub mod Public
pub mod FromNumbers
pub mod BaseTables
pub mod Served
pub mod Own
pub mod Numbered
