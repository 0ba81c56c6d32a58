-- Which text a program has: tokens, trees and weights.
pub mod TokenTable
pub mod Lexemes
pub mod Reading
pub mod ExpressionText
pub mod StatementText
pub mod ProgramText
pub mod Weight
pub mod Begins
pub mod ParseFaults
