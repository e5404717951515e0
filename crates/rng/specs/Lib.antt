-- The meanings of `rng`, what follows from them, and worked samples.
pub mod Rng
pub mod Laws
pub mod Samples
