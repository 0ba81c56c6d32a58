-- What the variables in scope stand for, and which there are behind statements.
pub mod Behind
pub mod SeenLocals
