-- The code of programs.
pub mod Scopes
pub mod Pieces
pub mod Words
pub mod ExpressionCode
pub mod StatementCode
pub mod ProgramImage
pub mod Fits
pub mod ProgramFits
