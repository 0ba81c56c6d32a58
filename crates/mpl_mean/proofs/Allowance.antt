pub mod Counted
pub mod CountedSteps
pub mod Tells
pub mod ExactYields
pub mod MoreAllowance
