pub mod Endings
pub mod Desks
pub mod Starting
pub mod Due
