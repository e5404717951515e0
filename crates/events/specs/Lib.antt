-- What merging the events means, and what the room holds of it.
pub mod Spots
pub mod Held
pub mod Aside
