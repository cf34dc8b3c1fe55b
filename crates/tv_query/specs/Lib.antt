pub mod Tokens
pub mod Selections
pub mod Grammar
pub mod Fields
pub mod Matching
pub mod Refusals
pub mod Parsing
pub mod SameQuery
