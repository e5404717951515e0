-- What the functions of `scene` mean.
pub mod Asked
pub mod Answers
pub mod Stamping
pub mod Numbers
