pub mod OneYield
pub mod Meanings
