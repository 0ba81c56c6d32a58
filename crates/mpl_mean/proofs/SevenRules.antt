-- In the first form only seven rules can fail.
pub mod FirstExpressions
pub mod FirstStmts
pub mod FirstTypes
pub mod FirstNodes
pub mod FirstBodies
pub mod FirstPrograms
