-- Laws of `room`.
pub mod Puts
pub mod Kept
