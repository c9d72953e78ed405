pub mod Log
pub mod Holding
pub mod Appending
pub mod Tidying
pub mod Reading
pub mod Finding
pub mod Comparing
pub mod Settling
