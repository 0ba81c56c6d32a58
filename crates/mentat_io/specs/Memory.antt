-- The forms in memory: what is seen of each, and what a call makes of it. No definition of a trait needs them.
pub mod MemShelf
pub mod MemSink
pub mod MemSource
pub mod Plan
pub mod SureShelf
