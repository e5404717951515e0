-- What the functions of `extent` mean, and what is claimed of a site's head.
pub mod Boxes
pub mod Extent
pub mod Sound
pub mod Samples
