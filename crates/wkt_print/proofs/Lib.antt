-- The laws under the functions of `wkt_print`, and what a caller needs of the texts: Printing, Widths and Lengths. Rounding: a printed number shows its float;
-- Back: a number that was read is printed as the same decimal.
mod Limbs
mod Bits
pub mod Widths
pub mod Printing
pub mod Lengths
pub mod Rounding
pub mod Back
