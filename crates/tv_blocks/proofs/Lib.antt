pub mod Filling
pub mod Suffixes
pub mod Prefixes
pub mod Blocks
pub mod LineDocuments
pub mod Documents
pub mod Importing
pub mod Records
pub mod OneContent
pub mod OneBreak
pub mod SchemaAnswers
pub mod DocumentAnswers
pub mod BlockAnswers
pub mod TermAnswers
pub mod TextAnswers
pub mod FacetPairs
pub mod FacetAnswers
pub mod Queries
pub mod Stops
pub mod SchemaTerms
pub mod FieldValues
mod Boxes
mod Heap
mod Pointers
