-- What the functions of `credit` mean.
pub mod Credit
