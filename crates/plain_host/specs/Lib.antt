-- The host of plain code.
pub mod Hosted
pub mod Opened
pub mod Started
