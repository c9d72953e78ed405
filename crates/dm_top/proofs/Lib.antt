pub mod Due
pub mod Lists
pub mod Runs
pub mod Verdicts
