-- Small programs as trees, each below its source, and what they do.
pub mod ExpressionTrees
pub mod ProgramTrees
pub mod WorkedYields
pub mod CallPrograms
pub mod TrapPrograms
pub mod LoopPrograms
pub mod OrderPrograms
pub mod ReplyPrograms
