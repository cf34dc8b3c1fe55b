pub mod Error
pub mod Serialized
pub mod Children
