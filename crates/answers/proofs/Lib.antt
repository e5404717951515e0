-- The laws behind the answers.
pub mod Outcomes
