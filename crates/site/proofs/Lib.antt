-- Laws of `site`.
pub mod Accessing
pub mod Distances
pub mod Falling
pub mod SoundLaws
pub mod PlainLaws
pub mod Shares
pub mod Checks
