-- The laws under the functions of `view`.
pub mod Named
pub mod Asking
mod Draws
