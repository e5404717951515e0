-- What the numbers of the C interface of outlines stand for.
pub mod Numbers
