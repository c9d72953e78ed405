pub mod Dealing
pub mod Opening
pub mod Making
