pub mod Opened
pub mod Seats
