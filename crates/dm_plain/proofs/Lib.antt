pub mod Routings
pub mod Finding
pub mod Entries
pub mod KeptPlacings
pub mod Settling
pub mod Written
