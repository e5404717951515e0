-- Laws behind the proofs of `near`, and the theorems.
pub mod Meetings
pub mod FirstCells
pub mod TablesNear
pub mod SharedCells
pub mod Climbing
pub mod SortedKeys
pub mod Exact
pub mod Gathering
pub mod Answering
pub mod Ways
pub mod SameSpans
pub mod Only
pub mod Refusing
pub mod Numbers
