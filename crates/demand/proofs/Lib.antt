-- The theorems of `demand`: Ends, DemandThree, RefusedWhen and Freely, and under the last three Calls, Engines, Facing and Outlines.
mod Facing
pub mod Ends
pub mod Calls
pub mod Engines
pub mod Outlines
pub mod RefusedWhen
pub mod Freely
pub mod DemandThree
