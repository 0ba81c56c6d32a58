mod Entries
mod Queues
pub mod Inserted
mod Opening
pub mod Opened
