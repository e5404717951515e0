-- What the proofs of `refining` share.
pub mod Ways
pub mod Halves
