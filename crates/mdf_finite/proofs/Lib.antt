pub mod LearntResults
pub mod ArcCounts
pub mod Sums
pub mod Progress
pub mod Moving
pub mod GrowingProgress
pub mod Paying
pub mod ShortLogs
