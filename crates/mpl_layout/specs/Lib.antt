-- What a layout, its classes and the parts of structs and states stand for.
pub mod Bounds
pub mod ClassItems
pub mod Members
pub mod Parts
pub mod SeenClasses
pub mod SeenLayout
pub mod SeenNamed
pub mod SeenParts
