pub mod Claims
pub mod Locks
pub mod Sound
pub mod Room
pub mod Line
pub mod Calls
