pub mod Arithmetic
pub mod Words
pub mod Spares
pub mod CallAnswers
pub mod Results
pub mod Growing
