pub mod Stated
pub mod Places
pub mod Starts
pub mod Verdicts
