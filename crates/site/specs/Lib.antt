-- What the functions of `site` mean.
pub mod Tables
pub mod Domain
pub mod Soundness
pub mod Checks
pub mod Meets
pub mod Hits
