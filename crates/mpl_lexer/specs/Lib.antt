pub mod Lexing
pub mod Spans
