pub mod Sites
pub mod Backwards
pub mod Ranges
pub mod Components
pub mod Rising
pub mod Bits
