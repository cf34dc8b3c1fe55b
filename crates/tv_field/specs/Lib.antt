pub mod Entry
pub mod JsonTokens
pub mod JsonTable
pub mod JsonAnswer
