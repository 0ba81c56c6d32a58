pub mod DigitLemmas
pub mod OneAnswer
pub mod ReadLemmas
pub mod WordLemmas
