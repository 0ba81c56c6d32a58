pub mod NumberedMembers
pub mod ProgramStarts
pub mod ProgramRuns
