pub mod Marks
pub mod Internal
