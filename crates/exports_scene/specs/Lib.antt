-- The C interface has no meaning of its own: it cites those of `scene`, `build`, `random`, `grid` and `answers`. Only the settings of a random site are put together here,
-- and the counts of many questions in one call.
pub mod Settings
pub mod Many
