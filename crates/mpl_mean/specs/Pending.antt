-- Which forced uses of variables may find a pending or a trapped result: those that some path meets while their variable
-- is loose.
pub mod Looseness
pub mod Paths
pub mod BodyWays
pub mod MayBePending
