pub mod Inside
pub mod Vectors
pub mod Steps
pub mod Others
pub mod Reading
pub mod Restarting
pub mod Fitting
mod Worked
