-- What the plain trees of expressions, flows and statements mean, by clauses: what speaks of the meaning from here on needs
-- no fold.
pub mod ExprMeaning
pub mod StmtMeaning
pub mod Arity
