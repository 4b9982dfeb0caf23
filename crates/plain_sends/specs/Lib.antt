-- Sends in plain code.
pub mod Sends
pub mod Found
pub mod Messages
