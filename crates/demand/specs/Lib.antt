-- What the theorems of `demand` speak of.
pub mod Calls
pub mod Sweeps
pub mod Demands
pub mod Engines
pub mod Unbounded
