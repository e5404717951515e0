-- What the functions of `stages` mean.
pub mod Drawing
pub mod Shows
pub mod Held
pub mod Rust
