mod Missing
pub mod Tables
