pub mod Public
pub mod Told
pub mod Least
pub mod Walking
pub mod Along
pub mod Lowest
pub mod Bounds
pub mod Filled
pub mod One
pub mod AtCritical
pub mod Best
pub mod Costs
pub mod Ends
pub mod Kept
pub mod Sound
pub mod OnePlan
mod Worked
