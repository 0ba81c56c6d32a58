pub mod Comments
pub mod Numbers
pub mod Words
pub mod Steps
pub mod OneLine
pub mod Places
mod Candidates
