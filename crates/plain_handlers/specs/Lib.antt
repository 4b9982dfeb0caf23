-- Handlers of primitives in plain code.
pub mod Messages
pub mod Handling
