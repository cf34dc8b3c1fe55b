pub mod Remaining
pub mod Limiting
pub mod Buffering
