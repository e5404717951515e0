-- What the proofs of `outline` share.
pub mod Ways
