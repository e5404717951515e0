-- Laws of `fan`.
pub mod Adding
pub mod Bounds
pub mod Counts
pub mod Fronts
pub mod Scanning
