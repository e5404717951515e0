-- The steps of the two loops, and the theorem: SoundHead.
pub mod Steps
pub mod SoundHead
