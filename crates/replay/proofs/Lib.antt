-- The laws behind the replay.
pub mod SoundTables
