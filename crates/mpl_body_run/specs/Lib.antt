-- What the machine in the code stands for.
pub mod SeenItems
pub mod Seen
pub mod SeenEnds
pub mod SeenSetting
pub mod Printing
pub mod Small
pub mod Splitting
