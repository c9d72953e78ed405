pub mod Answers
pub mod Catching
pub mod Begins
pub mod Ends
pub mod Loading
pub mod Handing
pub mod Restarts
pub mod Leaving
