-- What the functions of `tables` mean.
pub mod Tables
pub mod Scatter
