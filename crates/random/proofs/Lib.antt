-- Laws behind the proofs of `random`, and the theorems: Inside, Refusing, RefusedWhen, RandomSound, Only.
pub mod Drawing
pub mod Ways
pub mod Turns
pub mod Inside
pub mod Refusing
pub mod RefusedWhen
pub mod RandomSound
pub mod Only
