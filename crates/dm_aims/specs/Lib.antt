pub mod Aiming
pub mod AimsFields
