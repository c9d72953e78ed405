pub mod Ledger
pub mod Finding
pub mod Roomy
pub mod KeptFields
pub mod Telling
