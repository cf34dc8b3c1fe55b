mod Checks
mod Cutting
mod Finds
mod Halting
mod Layouts
mod LineSteps
mod Lines
mod Merging
mod OneCutting
mod OneOutcome
pub mod Prints
mod Progress
mod ReadingBack
mod Refused
mod RefusedValues
mod Refusing
mod RunPairs
mod Taking
mod Told
pub mod WholeImports
pub mod OneMerge
pub mod OnePrint
pub mod OneStop
pub mod OneSearch
