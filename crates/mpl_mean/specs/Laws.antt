-- The words of the laws on what programs do.
pub mod Allowance
pub mod Sizes
pub mod InPlace
pub mod Waiting
pub mod Numbers
