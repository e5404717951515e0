-- What the functions of `near` mean.
pub mod Shared
pub mod Outcome
pub mod Keys
pub mod Samples
pub mod Numbers
