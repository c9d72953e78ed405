pub mod Routings
pub mod Asking
