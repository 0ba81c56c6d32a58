pub mod Limits
pub mod Words
pub mod Reads
-- What private functions say of their results.
pub mod Internal
