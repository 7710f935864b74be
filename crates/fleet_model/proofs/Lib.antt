pub mod Public
pub mod Order
pub mod SumLaws
pub mod MeanLaws
pub mod CapLaws
pub mod NoStockLaws
pub mod PairLaws
pub mod PriceLaws
pub mod FamilyLaws
pub mod FrameLaws
pub mod DependLaws
pub mod WordLaws
pub mod FloorLaws
pub mod UnitLaws
pub mod AllocationLaws
mod WorkedOne
mod WorkedTwo
pub mod DivisorLaws
