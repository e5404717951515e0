-- The laws behind the probe.
pub mod Answers
pub mod Walking
