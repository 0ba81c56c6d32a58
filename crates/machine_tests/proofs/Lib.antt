mod Inserted
pub mod Fates
pub mod Rows
