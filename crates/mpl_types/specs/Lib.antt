pub mod Checkable
pub mod Checked
pub mod Internal
