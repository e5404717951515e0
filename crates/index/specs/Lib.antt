-- What the functions of `index` mean.
pub mod Spans
pub mod Angular
pub mod Casting
pub mod Rust
pub mod Stands
pub mod Filling
