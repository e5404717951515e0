-- What the proofs of `seen` share, and the theorem of the corners gathered.
mod Passing
pub mod Visible
pub mod Gathered
pub mod Turns
pub mod Pushes
