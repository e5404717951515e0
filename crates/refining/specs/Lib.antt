-- What the functions of `refining` mean.
pub mod Refine
