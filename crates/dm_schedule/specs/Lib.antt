pub mod Answers
pub mod Drive
pub mod Drivers
