-- Images whose numbers have 32 bits.
pub mod ImageFits
