pub mod Blocks
pub mod Variables
