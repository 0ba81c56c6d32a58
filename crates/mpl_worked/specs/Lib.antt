pub mod SourceRuns
pub mod Sources
