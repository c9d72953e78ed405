pub mod Sums
pub mod KeptNext
pub mod Needs
pub mod Installing
mod Worked
