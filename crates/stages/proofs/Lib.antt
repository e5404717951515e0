-- The laws under the functions of `stages`, and its theorems: Counts, Demand and Rusts.
mod Corners
mod Sampling
pub mod Gathers
mod Casts
mod Running
pub mod Showing
pub mod Counts
pub mod Demand
pub mod Rusts
