-- Activations that plain code enters, with contexts and without, of methods and of blocks.
pub mod Evaluates
pub mod Refusing
