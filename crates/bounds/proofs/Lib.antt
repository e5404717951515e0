-- The laws: bounds of each operation's result, and the domain's tests as bounds.
pub mod Within
pub mod Domain
