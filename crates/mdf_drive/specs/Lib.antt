pub mod Plain
pub mod AtRest
pub mod Handing
pub mod DriveOrder
pub mod MainEnds
