-- What the functions of `sight` mean.
pub mod Slabs
pub mod Holding
pub mod Casting
pub mod Rust
pub mod Tested
