-- What the functions of `outline` mean.
pub mod Outline
