-- What the functions of `view` mean.
pub mod Post
pub mod Outcome
