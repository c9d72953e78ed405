pub mod Tales
pub mod ListedFields
