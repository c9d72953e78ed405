pub mod Images
pub mod Pushed
pub mod Picked
pub mod Replayed
