-- What the contracts of `room` say.
pub mod Constants
pub mod Layout
pub mod Records
