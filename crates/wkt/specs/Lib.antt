-- What `wkt` reads: the limits, the words, the grammar, and what an answer and the lent slices say of a text.
pub mod Limits
pub mod Words
pub mod Parse
pub mod Rules
pub mod Number
pub mod Numeral
pub mod Nearest
pub mod Grammar
pub mod Answer
pub mod Cursor
pub mod Samples
