pub mod Statuses
pub mod Nodes
