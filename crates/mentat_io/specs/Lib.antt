-- What the traits say: a theorem over any shelf, source and sink rests on these three alone.
pub mod Causes
pub mod Shelf
pub mod Source
-- What is said of the forms of the traits beside that.
pub mod Memory
pub mod System
