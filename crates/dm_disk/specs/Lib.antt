pub mod Faults
pub mod Fetching
pub mod Putting
pub mod InMemory
