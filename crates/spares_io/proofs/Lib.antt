pub mod Find
pub mod Read
