-- Activations that have contexts.
pub mod Contexts
pub mod Making
pub mod Literals
