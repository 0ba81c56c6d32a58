pub mod ArgumentLemmas
pub mod ExpressionLemmas
pub mod LeastLemmas
pub mod OutlineLemmas
pub mod StatementLemmas
pub mod ProgramLemmas
pub mod LoopLemmas
pub mod ScopeLemmas
