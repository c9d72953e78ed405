pub mod Causing
pub mod Restarting
pub mod Telling
