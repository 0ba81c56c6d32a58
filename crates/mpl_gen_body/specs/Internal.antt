pub mod Accepting
pub mod Fitting
pub mod Surroundings
pub mod Writing
