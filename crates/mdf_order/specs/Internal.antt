pub mod Above
pub mod BlockSums
pub mod Marks
pub mod Shorter
pub mod Spots
