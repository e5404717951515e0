-- The laws behind the lines.
pub mod Words
