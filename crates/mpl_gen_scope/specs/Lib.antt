-- What the outline, the scopes and the places in code stand for.
pub mod Outlines
pub mod SeenLocals
pub mod SeenMarks
pub mod SeenOutline
pub mod SeenScope
pub mod SeenSelects
