-- What the functions of `answers` mean.
pub mod Head
pub mod Outcomes
