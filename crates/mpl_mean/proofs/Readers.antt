-- What a reader of tokens did.
pub mod Parts
pub mod Tokens
