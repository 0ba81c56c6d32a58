-- The code of a body does what the body means.
pub mod Reaching
pub mod Scoped
pub mod Arguments
pub mod Below
pub mod Expressions
pub mod Flows
pub mod Trees
pub mod Storing
pub mod Statements
pub mod Bodies
pub mod Levels
pub mod FallingSteps
pub mod RunnableCode
