-- Laws of `sight`, and its theorems.
pub mod Ways
pub mod Looking
pub mod Highest
pub mod Cells
pub mod Edges
pub mod Rusts
pub mod Together
pub mod Alike
pub mod Lowest
