-- What the functions of `random` mean.
pub mod Draws
pub mod Outcome
pub mod Checks
pub mod Samples
