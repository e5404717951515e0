-- What the laws of `bounds` speak of.
pub mod Within
pub mod Domain
