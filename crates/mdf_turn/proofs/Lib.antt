pub mod PrefixLemmas
pub mod ActorLemmas
pub mod ViewLemmas
pub mod Keeps
