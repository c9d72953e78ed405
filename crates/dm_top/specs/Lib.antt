pub mod Texts
pub mod Ends
pub mod Fetching
pub mod Step
pub mod Check
pub mod Command
pub mod Due
pub mod Parts
