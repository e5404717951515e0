-- What the proofs of several functions use.
pub mod Ways
pub mod Emitting
pub mod Answers
pub mod Ordering
