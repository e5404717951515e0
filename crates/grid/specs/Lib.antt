-- What the functions of `grid` mean.
pub mod Boxes
pub mod Range
pub mod Stamps
pub mod Entries
pub mod Query
pub mod Numbers
