pub mod GivenSteps
pub mod Promises
pub mod Resuming
pub mod Stores
pub mod StoredLaws
pub mod WriterSteps
pub mod RoundTrips
pub mod Migrations
pub mod BlockMigration
mod InPlace
mod Blocks
mod BlockSteps
mod BlocksWithin
pub mod Projections
pub mod BlocksSoFar
pub mod Nesting
pub mod NestedSteps
pub mod WithinDepth
pub mod WithinLimits
pub mod TestedParts
pub mod StepsPaid
pub mod Standing
pub mod Alike
pub mod WithinAlike
pub mod ProjectedAlike
pub mod MigratedAlike
