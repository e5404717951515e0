-- The laws under the functions of `planner`; Longest: how long an answer is at most; Only: that there is one answer; Alike: that the case of letters tells
-- nothing, and that old texts are answered as before; InPlace: that each polygon is its line's, and that an empty one is never seen; Ends: that it ends.
pub mod Lines
pub mod Longest
pub mod Ways
pub mod Only
pub mod Alike
pub mod InPlace
pub mod Ends
