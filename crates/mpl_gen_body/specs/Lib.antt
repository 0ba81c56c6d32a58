-- Which maps cover a program, and what private functions of the generator say.
pub mod Covers
pub mod Internal
