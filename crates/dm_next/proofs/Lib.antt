pub mod Running
pub mod Routed
pub mod Growing
pub mod Reading
pub mod Minima
pub mod HandOvers
pub mod Doubts
pub mod Restarts
pub mod Catching
mod Worked
