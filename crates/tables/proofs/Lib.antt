-- Laws of the building, and the theorems on built tables.
pub mod Cells
pub mod Puts
pub mod All
pub mod Whole
pub mod Only
pub mod BuiltTables
pub mod BuiltQuery
