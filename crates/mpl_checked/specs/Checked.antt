-- The checked meaning of plain trees under a map of marks: what they mean, but that a forced use which isn't marked goes
-- astray where its variable holds no known words.
pub mod CheckedSteps
pub mod CheckedExpressions
pub mod CheckedStatements
pub mod CheckedBodies
