pub mod Arrivals
pub mod Data
pub mod Ports
