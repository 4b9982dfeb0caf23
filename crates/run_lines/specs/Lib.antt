-- The current activity between commands.
pub mod Standing
