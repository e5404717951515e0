-- What the functions of `visibility` mean.
pub mod Asked
pub mod Outcome
pub mod Numbers
pub mod Beside
