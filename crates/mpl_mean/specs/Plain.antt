-- Programs' bodies as plain data: expressions, places, flows and calls, and statements, without the levels of the grammar,
-- and what their names stand for.
pub mod Expr
pub mod Stmt
pub mod Scopes
