-- A source has no more tokens than bytes.
pub mod TokenCount
