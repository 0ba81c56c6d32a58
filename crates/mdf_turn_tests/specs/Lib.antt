pub mod Entries
pub mod Staying
