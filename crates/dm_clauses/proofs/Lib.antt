pub mod Ascending
pub mod KeysAway
pub mod Epochs
pub mod Homes
pub mod Settled
