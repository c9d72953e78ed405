pub mod Keeps
pub mod Lines
pub mod Begins
pub mod Shapes
pub mod LastBegins
pub mod BodiesKept
pub mod DriversKept
pub mod LinesOf
