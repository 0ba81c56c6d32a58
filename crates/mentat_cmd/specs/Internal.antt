-- What private functions say of their results.
pub mod Commands
pub mod Ran
