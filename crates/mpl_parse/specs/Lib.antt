pub mod Fault
pub mod Internal
