-- What `wkt_print` writes: a number in decimals, a polygon's line, a refusal's line.
pub mod Decimal
pub mod Lines
pub mod Rounding
pub mod Samples
