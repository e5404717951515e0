-- What the functions of `seen` mean.
pub mod Seen
