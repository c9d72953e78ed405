pub mod Each
pub mod LeastNames
pub mod Limits
