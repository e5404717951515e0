-- The laws under the functions of `wkt`, and its theorems: Nearest and Written, that a number is read as the nearest float; Stored, what a caller finds;
-- Raised, that the case of letters tells nothing; Wider, Before and Decimals, that what was read before is read the same, and that nothing else
-- moves.
pub mod Compare
pub mod Letters
pub mod Numerals
pub mod Floats
pub mod Nearest
pub mod Prefix
pub mod Stored
pub mod Written
pub mod Only
pub mod Rings
pub mod Lined
pub mod Texts
pub mod Raised
pub mod Wider
pub mod Before
pub mod Decimals
