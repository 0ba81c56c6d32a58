-- Two runs of one program, gone through at once, for all laws about two runs.
pub mod Simulation
pub mod KeptAssignments
pub mod KeptCalls
pub mod KeptExpressions
pub mod KeptPlaces
pub mod KeptStatements
pub mod UnlessSpent
