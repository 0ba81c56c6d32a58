pub mod ExprsSame
pub mod FlowsSame
pub mod StmtsSame
pub mod FittingExpressions
pub mod FittingFlows
pub mod FittingStatements
pub mod FittingBodies
