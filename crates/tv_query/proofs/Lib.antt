mod Words
mod Parsing
mod Naming
mod Wanting
mod Selecting
mod Running
pub mod Telling
mod Reading
mod OneToken
mod Refusing
mod OneQuery
mod OneClause
mod Machine
mod OneText
