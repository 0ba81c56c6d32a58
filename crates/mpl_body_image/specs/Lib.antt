-- How an image is laid out.
pub mod Laid
pub mod Internal
