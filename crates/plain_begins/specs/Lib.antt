-- Activities that begin in plain code.
pub mod Begins
