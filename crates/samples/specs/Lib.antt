-- Document 01's samples.
pub mod Samples
