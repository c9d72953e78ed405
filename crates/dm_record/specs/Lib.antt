pub mod Form
pub mod Stopping
pub mod Bytes
pub mod Frames
pub mod Grammar
pub mod Judging
