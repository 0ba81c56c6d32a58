-- A refusal names the least failure.
pub mod LeastFailure
