-- The samples' claim.
pub mod SamplesHold
