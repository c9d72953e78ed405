pub mod Leaving
pub mod Joins
pub mod Levels
