pub mod TreeOfSource
