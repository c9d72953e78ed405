pub mod Adding
pub mod Marking
pub mod EntriesNext
pub mod Opening
pub mod Reading
pub mod Rooms
pub mod Advancing
pub mod Stored
