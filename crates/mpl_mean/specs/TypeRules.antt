-- Which programs are well typed: the nodes of a program, and the 26 rules.
pub mod Operations
pub mod Types
pub mod Scopes
pub mod Typing
pub mod Nodes
pub mod StatementNodes
pub mod ProgramNodes
pub mod NameRules
pub mod SizeRules
pub mod ClassRules
pub mod ExpressionRules
pub mod CallRules
pub mod StatementRules
pub mod Rules
