pub mod Calls
pub mod Consumers
pub mod Results
pub mod Room
pub mod Openings
pub mod Internal
