pub mod Marked
pub mod Selects
pub mod Tables
pub mod Variables
