-- Laws behind the proofs of `build`, and the theorems: BuiltSound, BuiltIndex, InPlace, Only, Refusing, RefusedWhen.
pub mod Orders
pub mod Writing
pub mod Spans
pub mod Deciding
pub mod Loading
pub mod Domain
pub mod Laid
pub mod Making
pub mod BuiltSound
pub mod BuiltIndex
pub mod InPlace
pub mod Only
pub mod Refusing
pub mod RefusedWhen
