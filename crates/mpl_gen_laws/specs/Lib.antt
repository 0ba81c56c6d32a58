pub mod SameChoices
pub mod PrintedLines
pub mod Marks
pub mod MarkedSum
pub mod SafeFrames
pub mod MarkedUses
