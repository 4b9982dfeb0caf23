pub mod Decimal
pub mod PlaceSteps
pub mod Strings
pub mod TokenSteps
pub mod TokensWithin
pub mod Within
