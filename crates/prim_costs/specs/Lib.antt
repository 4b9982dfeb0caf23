-- The plain cost of primitives.
pub mod Taking
