pub mod Addresses
pub mod AddressBytes
pub mod Kept
pub mod InPlace
pub mod Found
pub mod ListChildren
pub mod TokenSteps
pub mod Payloads
pub mod GatheredTokens
pub mod LentJson
pub mod MovedJson
pub mod JsonParts
pub mod Utf8Prefixes
mod SameChildren
