mod AnswerLemmas
mod Causes
mod OutputLemmas
mod Persistent
mod RunLemmas
