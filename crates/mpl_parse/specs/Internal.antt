-- What private functions say of their results. No public contract cites it.
pub mod Forms
pub mod Onto
