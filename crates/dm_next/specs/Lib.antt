pub mod Running
pub mod Routed
pub mod Counted
pub mod Restarts
