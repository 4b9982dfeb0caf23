-- Sessions in plain code.
pub mod Stacks
pub mod Sessions
pub mod Commands
