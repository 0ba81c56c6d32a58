pub mod Prefixes
pub mod Actors
pub mod Passes
pub mod Rule
pub mod Steps
pub mod Hands
