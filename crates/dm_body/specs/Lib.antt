pub mod Progress
pub mod Answer
pub mod Room
pub mod Fitting
