-- What private functions say of their results. No public contract cites it.
pub mod Arguments
pub mod Expressions
pub mod Least
pub mod Outlines
pub mod Programs
pub mod Seen
pub mod SeenBefore
pub mod Statements
