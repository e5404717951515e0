-- What the functions of `rays` mean.
pub mod Samples
pub mod Stands
