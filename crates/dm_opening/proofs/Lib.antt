pub mod Lists
pub mod Distinct
pub mod Cutting
pub mod Sitting
pub mod Building
pub mod Parting
