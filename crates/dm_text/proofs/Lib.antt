pub mod Canonical
pub mod Cuts
pub mod Signs
