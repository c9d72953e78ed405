pub mod Room
pub mod Installs
