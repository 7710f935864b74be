pub mod Public
pub mod Confirmed
pub mod HandedOut
pub mod OfTask
pub mod Shown
pub mod Steps
pub mod TrueAnswers
pub mod Whole
