-- Laws of `scene`, and its theorems.
pub mod Asking
pub mod Writing
pub mod Only
pub mod Refusals
pub mod Near
pub mod Seen
pub mod Parts
pub mod NeverSix
pub mod BuiltSites
