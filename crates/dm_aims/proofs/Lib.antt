pub mod Routes
pub mod AimsNext
pub mod Opening
