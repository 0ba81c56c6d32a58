pub mod Declarations
pub mod Depths
mod Taken
mod Pushed
