pub mod Answer
pub mod Input
pub mod Message
pub mod Output
pub mod Program
pub mod StatusNumber
pub mod Words
pub mod Internal
