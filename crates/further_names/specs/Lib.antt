-- The names of a session over an accepted world.
pub mod Accepted
