-- Laws of `cone`.
pub mod FewSteps
pub mod Arcs
pub mod Outlining
pub mod OutlineRefusals
