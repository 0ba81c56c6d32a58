-- More turns change nothing.
pub mod TurnsChangeNothing
