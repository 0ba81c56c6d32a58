pub mod JournalSources
pub mod WorkedJournals
