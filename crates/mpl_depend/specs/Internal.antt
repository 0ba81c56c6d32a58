-- What is said of the ways through a body, and of the walk along them.
pub mod Bodies
pub mod Carried
pub mod Certain
pub mod Ranks
pub mod Reached
pub mod Regular
pub mod Saves
pub mod SeenClass
pub mod SeenScope
pub mod SeenWays
pub mod Sights
pub mod Walking
