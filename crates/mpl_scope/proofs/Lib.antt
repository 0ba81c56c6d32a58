pub mod FirstLemmas
pub mod ListLemmas
pub mod TableLemmas
pub mod WordLemmas
