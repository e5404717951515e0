-- Laws of the grid, and the theorems on the stamps and the box query.
pub mod Ranges
pub mod Direct
pub mod PointCell
pub mod Only
pub mod Stamping
pub mod Rows
pub mod RowsLoop
pub mod Closing
pub mod FreshStamps
pub mod BoxQuery
pub mod Found
pub mod Numbers
