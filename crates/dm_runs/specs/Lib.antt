pub mod Shown
pub mod RunsFields
pub mod Next
pub mod Running
