pub mod Growing
pub mod Others
pub mod Once
pub mod Runs
pub mod Logs
