pub mod Ranges
pub mod Fields
pub mod Reading
pub mod Openings
pub mod File
