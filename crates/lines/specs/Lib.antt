-- What the words of a line mean.
pub mod Words
