mod Changes
pub mod InOrderSerials
pub mod Items
mod Marks
mod Sums
mod Popped
