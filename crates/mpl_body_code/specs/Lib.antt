-- The code of bodies: what it does, and which code a body has.
pub mod Machine
pub mod Steps
pub mod Scopes
pub mod Codes
pub mod Images
pub mod StepsLeft
pub mod Runnable
pub mod SeenImage
