pub mod Sets
pub mod Scored
pub mod WindowFields
pub mod Loads
pub mod Tells
