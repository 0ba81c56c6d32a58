-- The adapters over the system: what is seen of each, and what a call says of the bytes in std's terms. No definition of
-- a trait needs them.
pub mod Opened
pub mod Stream
