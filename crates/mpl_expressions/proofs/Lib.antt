pub mod Alike
mod Sums
pub mod Turns
mod Whole
