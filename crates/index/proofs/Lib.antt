-- What the proofs of several functions use.
pub mod Ways
pub mod Walking
pub mod Buckets
pub mod Notes
pub mod Marks
pub mod Casts
pub mod Puts
pub mod Strips
pub mod Passes
pub mod Fills
pub mod Builds
pub mod Kept
pub mod Hits
pub mod Rusts
pub mod Lowest
