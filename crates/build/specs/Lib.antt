-- What the functions of `build` mean.
pub mod Stored
pub mod Refusals
pub mod Checks
pub mod Outcome
pub mod Numbers
pub mod Samples
