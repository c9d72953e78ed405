pub mod Adding
pub mod Pendings
pub mod Naming
pub mod Next
pub mod Slots
