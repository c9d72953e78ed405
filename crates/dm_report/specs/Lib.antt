pub mod Moves
pub mod Keeping
pub mod Totals
pub mod Rest
pub mod Replies
