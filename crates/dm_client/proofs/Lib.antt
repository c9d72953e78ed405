pub mod Answering
pub mod Placed
pub mod Carrying
pub mod Handing
