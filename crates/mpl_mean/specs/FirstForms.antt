-- The programs of the first form.
pub mod FirstForm
pub mod ExpressionLevels
