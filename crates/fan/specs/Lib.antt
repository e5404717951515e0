-- What the functions of `fan` mean.
pub mod Sides
pub mod Fan
pub mod Fronts
