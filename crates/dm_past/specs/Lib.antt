pub mod Cuts
pub mod Histories
pub mod Fits
