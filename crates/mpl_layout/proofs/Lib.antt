pub mod Bounds
pub mod ClassesInOrder
pub mod FieldWords
pub mod Tables
