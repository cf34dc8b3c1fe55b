pub mod Encoded
pub mod Coded
pub mod WriterSteps
pub mod OpenLists
