pub mod Floors
pub mod Plans
pub mod Histories
