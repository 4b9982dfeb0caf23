-- Primitives in plain code.
pub mod Asking
pub mod Rows
pub mod Services
pub mod Performing
pub mod Failing
