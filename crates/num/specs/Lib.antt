-- What the functions of `num` mean.
pub mod Ops
pub mod Num
pub mod Order
pub mod Root
pub mod Pages
