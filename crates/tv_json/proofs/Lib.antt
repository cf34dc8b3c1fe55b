pub mod Behind
pub mod InOrder
mod OpenLists
mod WrittenParts
pub mod Levels
mod Places
pub mod Copies
mod Rising
mod Mapped
mod Turns
pub mod Floats
mod ListKinds
mod Faults
mod LargeNumbers
mod FaultLaws
pub mod FaultKinds
mod Accepted
mod AcceptedWords
mod AcceptedTokens
mod AcceptedStrings
mod AcceptedTurns
mod AcceptedValues
mod Derivations
mod Derived
mod DerivedTokens
mod DerivedValues
