-- The laws under the functions of `events`, and what the later stages cite: Reading and Bounds. Its theorems: Bounds, Aside.
pub mod Reading
mod Closing
mod Running
mod Loop
mod Ordering
mod Sides
pub mod Bounds
pub mod Aside
