-- What the numbers of the probe stand for.
pub mod Numbers
