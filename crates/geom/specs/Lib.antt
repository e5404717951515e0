-- What the functions of `geom` mean.
pub mod Constants
pub mod Vec
pub mod Box
pub mod Segment
pub mod Ring
