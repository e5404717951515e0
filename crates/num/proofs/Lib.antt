-- The laws under the functions of `num`, the order of floats and of roots, and the theorems: FloorExact, SquareRoot, Remainder, TotalOrder.
pub mod Whole
pub mod FloatOrder
mod FloorLaws
mod CompareLaws
pub mod RootLaws
mod RootBits
pub mod SqrtLaws
mod RemLaws
pub mod NearLaws
pub mod RemBits
mod BitLaws
pub mod Ranks
pub mod FloorExact
pub mod SquareRoot
pub mod Remainder
pub mod TotalOrder
pub mod RootOrder
pub mod OpOrder
