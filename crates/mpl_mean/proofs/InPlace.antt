pub mod Shifted
pub mod ShiftedSteps
pub mod AloneInPlace
