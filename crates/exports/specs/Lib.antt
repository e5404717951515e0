-- What the numbers of the C interface stand for.
pub mod Numbers
