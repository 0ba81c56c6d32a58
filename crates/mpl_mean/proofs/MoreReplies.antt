-- More replies only add.
pub mod ComesBack
pub mod Later
pub mod Follows
pub mod FollowsBodies
pub mod FollowsCalls
pub mod FollowsStores
pub mod ResultsAtEnd
pub mod RepliesOnlyAdd
