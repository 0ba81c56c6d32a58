pub mod OpenedLanguage
pub mod OfSource
