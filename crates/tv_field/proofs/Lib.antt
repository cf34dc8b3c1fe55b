pub mod JsonTokens
pub mod OneOutcome
