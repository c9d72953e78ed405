pub mod Folds
pub mod Puts
pub mod OwnWrites
pub mod WriteLists
