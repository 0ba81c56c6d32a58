-- What is written behind the code that is there.
pub mod Drafts
pub mod Primaries
pub mod ByNumber
pub mod RowCodes
pub mod Texts
