pub mod Public
pub mod Numbers
pub mod Lists
pub mod Counting
pub mod Sums
pub mod Digits
pub mod Options
