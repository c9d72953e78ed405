pub mod Marks
pub mod Values
pub mod Ranges
pub mod Kinds
