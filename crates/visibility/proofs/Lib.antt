-- The laws under the functions of `visibility`, and its theorems: Only, Left, Ids.
pub mod Admitting
pub mod Only
pub mod Left
pub mod Ids
