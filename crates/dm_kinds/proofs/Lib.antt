pub mod Chains
mod Keys
mod Vectors
