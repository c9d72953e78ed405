pub mod Judging
pub mod Choosing
