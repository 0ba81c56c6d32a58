-- What the private functions say of their results. The contract of `image_of` needs none of it.
pub mod SeenOutline
pub mod Outlines
pub mod SeenScope
pub mod RowCodes
pub mod ByNumber
pub mod Writing
pub mod Bodies
