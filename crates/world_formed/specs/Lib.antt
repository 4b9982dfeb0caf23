-- Worlds with which a session begins.
pub mod Begins
