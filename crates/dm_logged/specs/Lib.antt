pub mod Twice
