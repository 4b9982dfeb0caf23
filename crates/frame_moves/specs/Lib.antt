-- The frames of a stack, where windows spill, fill and are flushed.
pub mod Moves
