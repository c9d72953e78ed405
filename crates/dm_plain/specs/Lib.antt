pub mod Adding
pub mod Routings
