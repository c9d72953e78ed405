pub mod Adding
pub mod Telling
pub mod Ranges
