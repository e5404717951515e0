-- What the functions of `walk` mean.
pub mod Clipping
pub mod Steps
pub mod Tours
