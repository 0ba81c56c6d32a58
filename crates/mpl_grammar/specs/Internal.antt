-- The grammar as a table, and what private functions say of it. No public contract cites it.
pub mod Kinds
pub mod Grammar
pub mod Machine
pub mod Fits
pub mod Sources
pub mod Taking
