-- What `planner` means: the whole answer of the text program.
pub mod Rooms
pub mod Answer
